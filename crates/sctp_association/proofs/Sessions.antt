-- The calls by which an association sends are calls of a session.
use Rattle.std.proofs.Common.{◌≡◌, ◌+◌, List, [], ◌∷◌, ◌++◌, true, Option, Some, None, refl, ap, sym, subst, ◌∙◌, append_assoc}
use Rattle.std.proofs.lemmas.Bool.{false≢true}
use Rattle.std.proofs.lemmas.List.Elements.{Contains-append_left}
use Rattle.std.specs.Prelude.{Contains}
use Rattle.std.specs.List.{AllByRecursion}
use Rattle.sctp_association.specs.Packets.{IsOf, Sides, Transmits}
use Rattle.sctp_association.specs.Runs.{Runs, SendsBy, is_sending, made_by}
use Rattle.sctp_association.specs.Sessions.{GoesOn, IsMade, IsSentIn}
use Rattle.sctp_chunks.specs.Wire.{Wire, data_chunk, forward_tsn_chunk, i_forward_tsn_chunk, sack_chunk, shutdown_chunk}
use Rattle.sctp_chunks.specs.Wire.{abort_chunk, cookie_ack_chunk, cookie_echo_chunk, error_chunk, heartbeat_ack_chunk, heartbeat_chunk, init_chunk}
use Rattle.sctp_chunks.specs.Wire.{reconfig_chunk, shutdown_ack_chunk, shutdown_complete_chunk}
use Rattle.sctp_data.specs.declared.chunk.chunk_payload_data.ChunkPayloadData.{ChunkPayloadData}
use Rattle.sctp_data.specs.SelectiveAck.{Sack}
use Rattle.sctp_delivery.specs.SenderCalls.{Made, SenderCall, as_run, made_after, next_chunk, with_chunk, written_after}
use Rattle.sctp_delivery.specs.SenderCalls.{expires, expires_late, expires_rexmit, expires_tail, forwards_within, resends, sends, starts}
use Rattle.sctp_delivery.specs.Session.{IsReported, SenderFollows, Session}
use Rattle.sctp_sender.specs.Sender.{Transmission}
use Rattle.sctp_sender.specs.SenderRuns.{released_by, taken_back_by, written_by}

with_more : (o : Option ChunkPayloadData) (ms : List Made) → with_chunk o ms ≡ with_chunk o [] ++ ms
with_more None ms = refl
with_more (Some c) ms = refl

pub made_more : (c : SenderCall) (t : Transmission) (ms : List Made) → is_sending c ≡ true → made_after c t ms ≡ made_by c t ++ ms
made_more (sends now) t ms e = with_more (next_chunk now t) ms
made_more (resends tsn now c) t ms e = refl
made_more (forwards_within bytes f) t ms e = refl
made_more (starts now) t ms e = refl
made_more (expires now m) t ms e = refl
made_more (expires_tail now m) t ms e = refl
made_more (expires_late now gone) t ms e = refl
made_more (expires_rexmit gone) t ms e = refl
made_more _ t ms e = absurd (false≢true e)

-- no SACK is taken
pub none_taken : (c : SenderCall) (s : Session) → is_sending c ≡ true → IsReported c s
none_taken (sends now) s e = tt
none_taken (resends tsn now c) s e = tt
none_taken (forwards_within bytes f) s e = tt
none_taken (starts now) s e = tt
none_taken (expires now m) s e = tt
none_taken (expires_tail now m) s e = tt
none_taken (expires_late now gone) s e = tt
none_taken (expires_rexmit gone) s e = tt
none_taken _ s e = absurd (false≢true e)

-- a session after one call
abbrev next : SenderCall → Transmission → Session → Session
next c mid s = record {
  sending = record {
    sender = mid;
    written = s.sending.written + written_by (as_run c);
    released = s.sending.released + released_by (as_run c);
    taken_back = s.sending.taken_back + taken_back_by (as_run c);
  };
  receiving = s.receiving;
  made = made_after c s.sending.sender s.made;
  sacks = s.sacks;
  written = written_after c s.written;
}

follows : (c : SenderCall) (s : Session) (mid : Transmission) → SendsBy c s.sending.sender mid → SenderFollows c s (next c mid s)
follows c s mid m = record {
  handed = none_taken c s m.0;
  step = record { sender = m.1.0; written = refl; released = refl; taken_back = refl };
  exact = m.1.1.0;
  accepted = m.1.1.1.0;
  answered = m.1.1.1.1;
  after = refl;
}

pub goes : (cs : List SenderCall) (ms : List Made) (s : Session) (new : Transmission) → Runs SendsBy made_by cs ms s.sending.sender new → GoesOn ms s new
goes [] ms s new r = record { calls = []; ended = s; run = refl; sender = sym r.1; more = ap (λ l. l ++ s.made) (sym r.0) }
goes (c ∷ cs) ms s new r =
    let t = next c r.mid s in
    let g = goes cs r.later t new r.rest in
    record {
      calls = c ∷ g.calls;
      ended = g.ended;
      run = (t, (follows c s r.mid r.made, g.run));
      sender = g.sender;
      more = g.more ∙ ap (λ l. r.later ++ l) (made_more c s.sending.sender s.made r.made.0)
          ∙ sym (append_assoc r.later (made_by c s.sending.sender) s.made) ∙ ap (λ l. l ++ s.made) (sym r.order);
    }

-- of what calls answered is what was made
made_of : (ms ns : List Made) (ss : List Sack) (more : (m : Made) → Contains ms m → Contains ns m) (w : Wire) → IsOf ms ss w → IsMade ns w
made_of ms ns ss more (data_chunk d) h = more _ h
made_of ms ns ss more (forward_tsn_chunk f) h = more _ h
made_of ms ns ss more (init_chunk i) h = tt
made_of ms ns ss more (sack_chunk s) h = tt
made_of ms ns ss more (heartbeat_chunk ps) h = tt
made_of ms ns ss more (heartbeat_ack_chunk ps) h = tt
made_of ms ns ss more (abort_chunk cs) h = tt
made_of ms ns ss more (shutdown_chunk n) h = tt
made_of ms ns ss more shutdown_ack_chunk h = tt
made_of ms ns ss more (error_chunk cs) h = tt
made_of ms ns ss more (cookie_echo_chunk b) h = tt
made_of ms ns ss more cookie_ack_chunk h = tt
made_of ms ns ss more shutdown_complete_chunk h = tt
made_of ms ns ss more (reconfig_chunk r) h = tt
made_of ms ns ss more (i_forward_tsn_chunk f) h = tt

all_made : (ms ns : List Made) (ss : List Sack) (more : (m : Made) → Contains ms m → Contains ns m) (ws : List Wire) → AllByRecursion (IsOf ms ss) ws
    → AllByRecursion (IsMade ns) ws
all_made ms ns ss more [] h = tt
all_made ms ns ss more (w ∷ ws) h = (made_of ms ns ss more w h.0, all_made ms ns ss more ws h.1)

pub each_is_sent : (old new : Sides) → Transmits true old new → (s : Session) → s.sending.sender ≡ old.sender → IsSentIn s old new
each_is_sent old new h s stands =
    let w = h.written refl in
    let g = goes h.sent.calls h.made s new.sender (subst (λ t. Runs SendsBy made_by h.sent.calls h.made t new.sender) (sym stands) h.sent.run) in
    record {
      made = h.made;
      goes_on = g;
      packet = w.packet;
      is_zero = w.is_zero;
      encoded = w.encoded;
      carried = all_made h.made g.ended.made h.sacks
          (λ m c. subst (λ l. Contains l m) (sym g.more) (Contains-append_left h.made s.made m c)) w.packet.chunks w.own;
    }
