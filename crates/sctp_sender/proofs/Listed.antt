-- What a sender notes as reported stays acknowledged.
use Rattle.sctp_sender.proofs.Names.{◌≡◌, ℕ, true, List, [], ◌∷◌, Option, Some, None, Result, Ok, Err, inl, inr, refl, ap, sym, subst, ◌∙◌, ◌⊎◌, IfSome, IsOk}
use Rattle.sctp_sender.proofs.Names.{OnErr, OnOk, find, if◌then◌else◌, none-some, some-same, not_both, ChunkPayloadData, GapAckBlock, Sack, is_outstanding}
use Rattle.sctp_sender.proofs.Names.{with_retransmit, all_started, expired_of, with_message, has_tsn, Anew, Kept, SenderRefusal, Flight, after_sack, can_resend}
use Rattle.sctp_sender.proofs.Names.{is_outdated, is_outstanding_in, resent, take_sack, with_queue, AreReported, Cover, blocks_after, AreKnown, after_misses}
use Rattle.sctp_sender.proofs.Names.{all_marked, can_miss, missed, resent_at}
use Rattle.std.specs.Option.{option_map}
use Rattle.sctp_sender.proofs.Known.{changed-known, part-changed-known, started-known}

pub reported-on : (o : Option Kept) (f g : Flight)
    → ((bs : List GapAckBlock) → AreKnown bs f.queue.inflight.chunks → AreKnown bs g.queue.inflight.chunks) → AreReported o f → AreReported o g
reported-on None f g keep v = v
reported-on (Some k) f g keep v = keep k.reported.items v

pub started-reported : (o : Option Kept) (now : ℕ) (f : Flight) → AreReported o f → AreReported o (with_queue f (all_started now f.queue))
started-reported o now f v =
    reported-on o f (with_queue f (all_started now f.queue)) (λ bs k. started-known bs f.queue (all_started now f.queue) now refl k) v

pub message-reported : (o : Option Kept) (cs : List ChunkPayloadData) (f : Flight) → AreReported o f
    → AreReported o (with_queue f (with_message cs f.queue))
message-reported o [] f v = v
message-reported o (c ∷ cs) f v = v

pub expired-reported : (o : Option Kept) (e : Option ChunkPayloadData) (f : Flight) → AreReported o f → AreReported o (with_queue f (expired_of e f.queue))
expired-reported o None f v = v
expired-reported o (Some c) f v = v

pub all-marked-reported : (o : Option Kept) (f : Flight) → AreReported o f → AreReported o (all_marked f)
all-marked-reported o f v =
    reported-on o f (all_marked f) (λ bs k. changed-known bs f.queue.inflight.chunks k is_outstanding (with_retransmit true) (λ d. refl)) v

pub misses-reported : (o : Option Kept) (count : ℕ) (f : Flight) → AreReported o f → AreReported o (after_misses count f)
misses-reported o count f v =
    reported-on o f (after_misses count f) (λ bs k. part-changed-known bs f.queue.inflight.chunks k can_miss missed (λ d. refl) count) v

pub resend-reported : (o : Option Kept) (tsn now : ℕ) (f g : Flight) (r : Result ChunkPayloadData SenderRefusal)
    → OnOk r ((c : ChunkPayloadData) → find (has_tsn tsn) f.queue.inflight.chunks ≡ Some c → g ≡ resent_at tsn now c f) → (IsOk r → can_resend tsn f ≡ true)
    → OnErr r (g ≡ f) → AreReported o f → AreReported o g
resend-reported o tsn now f g (Ok x) ok may err v = by (find (has_tsn tsn) f.queue.inflight.chunks) refl (may refl)
  where
    by : (found : Option ChunkPayloadData) → find (has_tsn tsn) f.queue.inflight.chunks ≡ found → is_outstanding_in found ≡ true → AreReported o g
    by None e h = absurd (not_both h)
    by (Some c) e h = subst (AreReported o) (sym (ok c e))
        (reported-on o f (resent_at tsn now c f) (λ bs k. changed-known bs f.queue.inflight.chunks k (has_tsn tsn) _ (λ d. refl)) v)
resend-reported o tsn now f g (Err e) ok may err v = subst (AreReported o) (sym err) v

pub count-reported : (o : Option Kept) (tsn : ℕ) (f g : Flight)
    → ((c : ChunkPayloadData) → find (has_tsn tsn) f.queue.inflight.chunks ≡ Some c → g ≡ resent tsn c f)
    → (find (has_tsn tsn) f.queue.inflight.chunks ≡ None → g ≡ f) → AreReported o f → AreReported o g
count-reported o tsn f g some none v = by (find (has_tsn tsn) f.queue.inflight.chunks) refl
  where
    by : (found : Option ChunkPayloadData) → find (has_tsn tsn) f.queue.inflight.chunks ≡ found → AreReported o g
    by (Some c) e = subst (AreReported o) (sym (some c e))
        (reported-on o f (resent tsn c f) (λ bs k. changed-known bs f.queue.inflight.chunks k (has_tsn tsn) _ (λ d. refl)) v)
    by None e = subst (AreReported o) (sym (none e)) v

-- ## By a SACK

-- where the blocks are others, and report only what is acknowledged
pub others-reported : (o n : Option Kept) (g : Flight) (left : List GapAckBlock → List GapAckBlock)
    → option_map (λ k. k.reported.items) n ≡ option_map (λ k. left k.reported.items) o
    → IfSome o (λ k. AreKnown (left k.reported.items) g.queue.inflight.chunks) → AreReported n g
others-reported o None g left same v = tt
others-reported None (Some k) g left same v = absurd (none-some k.reported.items (sym same))
others-reported (Some o) (Some k) g left same v = subst (λ (bs : List GapAckBlock). AreKnown bs g.queue.inflight.chunks) (sym (some-same same)) v

pub others-covered : (o n : Option Kept) (g : Flight) (left : List GapAckBlock → List GapAckBlock)
    → option_map (λ k. k.user_data.items) n ≡ option_map (λ k. k.user_data.items) o
    → option_map (λ k. k.reported.items) n ≡ option_map (λ k. left k.reported.items) o
    → IfSome o (λ k. Cover (left k.reported.items) k.user_data.items g) → IfSome n (λ k. Cover k.reported.items k.user_data.items g)
others-covered o None g left own same v = tt
others-covered None (Some k) g left own same v = absurd (none-some k.reported.items (sym same))
others-covered (Some o) (Some k) g left own same v =
    subst (λ (bs : List GapAckBlock). Cover bs k.user_data.items g) (sym (some-same same))
    (subst (λ (ks : List (Option (List ℕ))). Cover (left o.reported.items) ks g) (sym (some-same own)) v)

-- what a SACK that is taken reports then
pub after-reported : (s : Sack) (f : Flight) (o room n : Option Kept) (anew : Option Anew)
    → (anew ≡ None → (option_map (λ k. k.user_data.items) o ≡ None) ⊎ (is_outdated s f ≡ true))
    → IfSome anew (λ a. IfSome (option_map (λ k. k.user_data.items) o) (λ ks. AreKnown a.reported.items (after_sack s f).queue.inflight.chunks))
    → option_map (λ k. k.reported.items) room ≡ option_map (λ k. k.reported.items) o
    → option_map (λ k. k.reported.items) n ≡ option_map (λ k. blocks_after anew k.reported.items) room → AreReported o f → AreReported n (after_sack s f)
after-reported s f o room None anew idle known same blocks v = tt
after-reported s f o None (Some k) anew idle known same blocks v = absurd (none-some k.reported.items (sym blocks))
after-reported s f None (Some r) (Some k) anew idle known same blocks v = absurd (none-some r.reported.items (sym same))
after-reported s f (Some o) (Some r) (Some k) None idle known same blocks v = elim (idle refl) [
  | inl e ↦ absurd (none-some o.user_data.items (sym e))
  | inr e ↦ subst (λ (g : Flight). AreKnown k.reported.items g.queue.inflight.chunks) (sym (ap (λ b. if b then f else take_sack s f) e))
      (subst (λ (bs : List GapAckBlock). AreKnown bs f.queue.inflight.chunks) (sym (some-same blocks ∙ some-same same)) v)
]
after-reported s f (Some o) (Some r) (Some k) (Some a) idle known same blocks v =
    subst (λ (bs : List GapAckBlock). AreKnown bs (after_sack s f).queue.inflight.chunks) (sym (some-same blocks)) known
