-- Where what is held, read or lost is said of ordered chunks, too: an unordered fragment that stays unassembled, up to a place that a FORWARD-TSN goes
-- to, is of a message that is gone.
use Rattle.sctp_delivery.proofs.Names.{nat_tests, common_steps, ◌≡◌, ℕ, ◌<◌, ◌≤◌, ◌^◌, true, false, List, [], ◌∷◌, length, Some, None, Option, sym, ◌∙◌, arith}
use Rattle.sctp_delivery.proofs.Names.{All, both, list_all, filter, is_on, sum_by, at_or_before, fails, not_both, tsn, ChunkPayloadData, ChunkSet, Data}
use Rattle.sctp_delivery.proofs.Names.{data_of, data_chunk, is_complete, InboundStream, stream_of, is_one_message, all_complete, is_unmixed, are_apart}
use Rattle.sctp_delivery.proofs.Names.{was_taken, Session, Contains, ◌&&◌, slice_index_or}
use Rattle.sctp_delivery.proofs.Delivered.{AreInner, EachSent, each-from, found-sent, follows, from-few, inner-of}
use Rattle.sctp_delivery.proofs.Every.{Every, every-of, every-of-all}
use Rattle.sctp_delivery.proofs.Even.{IsEven, Sorted}
use Rattle.sctp_delivery.proofs.FragmentPlaces.{at_place}
use Rattle.sctp_delivery.proofs.InTheEnd.{none-data}
use Rattle.sctp_delivery.proofs.KeptOrGone.{HeldWell, IsKeptBut, IsLate, IsPassedBy}
use Rattle.sctp_delivery.proofs.KeptSets.{IsOrdered, IsTidySet, IsUnordered, IsWhole, OnlyFirst}
use Rattle.sctp_delivery.proofs.UnorderedGone as unordered_gone
use Rattle.sctp_delivery.proofs.UnorderedGone.{IsNeat}
use Rattle.sctp_delivery.proofs.MessagePlaces.{IsEntryAt, IsSpan}
use Rattle.sctp_delivery.proofs.OrderedEntries.{AreIndexed, AreJoined}
use Rattle.sctp_delivery.proofs.PassedMessages.{AreCutGone, AreTakenOrGone, EndsMessage, is_gone}
use Rattle.sctp_delivery.proofs.PassingCalls.{IsGone}
use Rattle.sctp_delivery.proofs.ReadOnce.{one}
use Rattle.sctp_delivery.proofs.Senders.{AreSent}
use Rattle.sctp_delivery.proofs.Sent.{Entry, IsLine, IsPart, Numbered, WasSent}
use Rattle.sctp_delivery.proofs.Sessions as sessions
use Rattle.sctp_delivery.proofs.TsnPlaces.{base}
use Rattle.sctp_delivery.proofs.Whole.{AreWholeOn, IsWholeOn}

-- of unordered fragments of one message none but the first begins one
inner-none : (c : ChunkPayloadData) (cs : List ChunkPayloadData) → AreInner c cs → Every IsUnordered cs
    → Every (λ (d : ChunkPayloadData). d.beginning_fragment ≡ false) cs
inner-none c [] a u = tt
inner-none c (d ∷ ds) a u = (fails d.beginning_fragment (λ b. not_both (sym (a.0 b).0 ∙ u.0)), inner-none d ds a.1 u.1)

singles : (ss : List ChunkSet) → list_all (λ (x : ChunkSet). is_one_message x.chunks) ss ≡ true → Every IsWhole ss
    → Every (λ (x : ChunkSet). OnlyFirst x.chunks) ss
singles [] o w = tt
singles (x ∷ xs) o w =
    let b = both (is_one_message x.chunks) (list_all (λ (x : ChunkSet). is_one_message x.chunks) xs) o in
    (one-set x.chunks b.0 w.0, singles xs b.1 w.1)
  where
    one-set : (cs : List ChunkPayloadData) → is_one_message cs ≡ true → Every IsUnordered cs → OnlyFirst cs
    one-set [] e u = tt
    one-set (c ∷ cs) e u = inner-none c cs (inner-of c cs e) u.1

module _ (ws : List Numbered) (first : ℕ) (sent : List Entry) (line : IsLine ws first sent) (indexed : AreIndexed sent)
    (joined : AreJoined sent) (n : ℕ) (long : length sent ≡ n) (few : n < 2 ^ 31) (gone : List ℕ) (cut : AreCutGone gone sent) (s : Session)
    (sent-made : AreSent sent s.made)
    (made : list_all (sessions.made_among s.made) s.receiving.accepted ≡ true) (apart : are_apart s.receiving.accepted ≡ true)
    (whole : All (λ m. (is_complete m.fragments ≡ true) × (is_one_message m.fragments ≡ true) × EachSent sent m.fragments) s.receiving.read)
    (st a : ℕ) (k : IsKeptBut first sent st n a gone s.made s.receiving) where
  abbrev p : ℕ
  p = base first

  abbrev Was : ChunkPayloadData → Type 0
  Was c = WasSent sent (data_of c)

  was-made : (d : Data) → Contains s.made (data_chunk d) → WasSent sent d
  was-made d c = found-sent sent s.made d sent-made c

  whole' : AreWholeOn sent st s.receiving.read
  whole' = every-of-all (IsWholeOn sent st) s.receiving.read (λ i m lt same.
      let x = whole i m lt in
      (x.0, only (slice_index_or s.receiving.read i m).fragments x.0 x.1 x.2, x.2))
    where
      only : (cs : List ChunkPayloadData) → is_complete cs ≡ true → is_one_message cs ≡ true → EachSent sent cs → OnlyFirst cs
      only h0 h1 h2 h3 = grind (arith, nat_tests, common_steps, follows, from-few, each-from, inner-of)

  abbrev light : IsEven st (IsGone gone sent) (IsNeat p n) s.receiving
  light = record {
    lost = k.lost;
    spent = every-of (IsPassedBy gone sent s.made) (IsGone gone sent) (λ c g. g.0) k.lost k.of-gone;
    so = record { weighs = λ w h. k.weighs w; holds = by (stream_of st s.receiving.receiver) k.holds };
  }
    where
      by : (o : Option InboundStream) → HeldWell first sent st n a (IsLate first sent st s.receiving.receiver.cumulative_tsn s.receiving.receiver.beyond) o
          → Sorted st (IsGone gone sent) (IsNeat p n) o
      by None h = tt
      by (Some l) h =
          let q = l.queue.held in
          let b = both (all_complete q.unordered) (is_unmixed l.queue.si q) h.orderly in
          let c = both _ (list_all (λ (x : ChunkSet). is_one_message x.chunks) q.unordered && _) b.1 in
          let o = (both (list_all (λ (x : ChunkSet). is_one_message x.chunks) q.unordered) _ c.1).0 in (
            every-of (IsTidySet p n) (λ x. Every IsOrdered x.chunks) (λ x e. e.1) q.ordered h.tidy.sets,
            record { rest = h.tidy.rest; complete = b.0; single = singles q.unordered o h.tidy.rest.whole },
          )

  pub was-taken : Every Was s.receiving.accepted
  was-taken = unordered_gone.was-taken ws first sent line joined n long few gone cut s was-made made apart st whole' light

  pub taken-there : (j : ℕ) (e : Data) (w : Numbered) → IsEntryAt sent j e w → e.stream_identifier ≡ st → was_taken (tsn p j) s ≡ true
      → 0 < sum_by (one (tsn p j)) (filter (is_on st) s.receiving.accepted)
  taken-there = unordered_gone.taken-there ws first sent line joined n long few gone cut s was-made made apart st whole' light

  pub none-lost : (j : ℕ) (e : Data) (w : Numbered) → IsEntryAt sent j e w → is_gone gone w.place ≡ false → sum_by (one (tsn p j)) k.lost ≡ 0
  none-lost = unordered_gone.none-lost ws first sent line joined n long few gone cut s was-made made apart st whole' light

  module _ (l : InboundStream) (found : stream_of st s.receiving.receiver ≡ Some l) where
    pub was-unassembled : Every Was l.queue.held.unassembled
    was-unassembled = unordered_gone.was-unassembled ws first sent line joined n long few gone cut s was-made made apart st whole' light l found

    pub none-stays : (m : ℕ) (least : m ≤ length sent) (y : ℕ) (d : Data) (w : Numbered) (i : IsEntryAt sent y d w) (unordered : d.unordered ≡ true)
        (here : 0 < sum_by (one (tsn p y)) l.queue.held.unassembled) (g : IsSpan (at_place none-data sent) sent m w d y)
        (takes : (j : ℕ) → g.start ≤ j → j ≤ g.finish → was_taken (tsn p j) s ≡ true)
        (unlost : (j : ℕ) → g.start ≤ j → j ≤ g.finish → sum_by (one (tsn p j)) k.lost ≡ 0) → ⊥
    none-stays = unordered_gone.none-stays ws first sent line joined n long few gone cut s was-made made apart st whole' light l found

    pub gone-unassembled : (passed : List Entry) (part : IsPart passed sent) (ends : EndsMessage passed) (came : AreTakenOrGone gone s passed)
        → (c : ChunkPayloadData) → Was c → c.unordered ≡ true → 0 < sum_by (one c.tsn) l.queue.held.unassembled
        → at_or_before c.tsn (tsn p (length passed)) ≡ true → IsGone gone sent c
    gone-unassembled = unordered_gone.gone-unassembled ws first sent line joined n long few gone cut s was-made made apart st whole' light l found
