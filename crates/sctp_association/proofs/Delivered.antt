-- What comes was made.
use Rattle.std.proofs.Common.{◌≡◌, ◌++◌, ℕ, List, [], ◌∷◌, true, Option, Some, None, refl, ap, sym, subst, ◌∙◌, append_assoc, inl, inr}
use Rattle.std.proofs.lemmas.Bool.{false≢true}
use Rattle.std.proofs.lemmas.List.Elements.{All-contains, All-from_recursion, Contains-append_left}
use Rattle.std.specs.Prelude.{Contains}
use Rattle.std.specs.List.{AllByRecursion}
use Rattle.sctp_association.proofs.Putting.{all_of_more}
use Rattle.sctp_association.proofs.Sessions.{goes}
use Rattle.sctp_association.specs.Arrivals.{Arrival, Asks, AsksFor, Does, Halves, IsBrought, ParamAsks, Steps, TypeAsks}
use Rattle.sctp_association.specs.Arrivals.{acks, begins, by_chunk, by_param, by_type, counts, hears, passes, receives, renews, restarts}
use Rattle.sctp_association.specs.Delivered.{BringsOnly, CarriesOnly, ComesOf, GoesOnReporting, IsFor, IsForMade}
use Rattle.sctp_association.specs.Packets.{IsAcked, IsOf, IsWritten, Sides, Transmits, sum_of}
use Rattle.sctp_association.specs.Runs.{AcksBy, ReportsIn, Runs, SendsBy, is_acking, made_by, reported_by}
use Rattle.sctp_chunks.specs.Wire.{Wire, data_chunk, forward_tsn_chunk, i_forward_tsn_chunk, sack_chunk, shutdown_chunk}
use Rattle.sctp_chunks.specs.Wire.{abort_chunk, cookie_ack_chunk, cookie_echo_chunk, error_chunk, heartbeat_ack_chunk, heartbeat_chunk, init_chunk}
use Rattle.sctp_chunks.specs.Wire.{reconfig_chunk, shutdown_ack_chunk, shutdown_complete_chunk}
use Rattle.sctp_data.specs.ForwardTsn.{ForwardTsn}
use Rattle.sctp_data.specs.PayloadData.{Data}
use Rattle.sctp_data.specs.SelectiveAck.{Sack}
use Rattle.sctp_datagram.proofs.Carried.{adds-no-plain}
use Rattle.sctp_datagram.specs.Carried.{Carries, IsPlain}
use Rattle.sctp_delivery.specs.ReceiverCalls.{ReceiverCall, forgets, makes_sack, reports_after}
use Rattle.sctp_delivery.specs.SenderCalls.{Made}
use Rattle.sctp_delivery.specs.SenderCalls as made
use Rattle.sctp_delivery.specs.Session.{ReceiverFollows, Session}
use Rattle.sctp_params.specs.Param.{Parameter, outgoing_reset_request, reconfig_response}
use Rattle.sctp_receiver.specs.Receiver.{Reception}
use Rattle.sctp_receiver.specs.ReceiverRuns.{Call, closes, discards, forwards, opens, resets, takes}

-- ## What is carried

module _ (ms : List Made) (sacks : List Sack) (datagram : List ℕ) (written : IsWritten ms sacks datagram) where
  -- of the kinds that read back whatever they say
  own : (w : Wire) → IsPlain w → Carries datagram w → IsOf ms sacks w
  own w plain c =
      let put = adds-no-plain (sum_of written.is_zero) written.packet written.fits written.encodings w plain
      (subst (λ (b : List ℕ). Carries b w) written.encoded c) in
      All-contains (IsOf ms sacks) written.packet.chunks w (All-from_recursion (IsOf ms sacks) written.packet.chunks written.own) put

  pub carries-only : CarriesOnly ms sacks datagram
  carries-only (data_chunk d) c = own (data_chunk d) tt c
  carries-only (init_chunk i) c = tt
  carries-only (sack_chunk s) c = own (sack_chunk s) tt c
  carries-only (heartbeat_chunk ps) c = tt
  carries-only (heartbeat_ack_chunk ps) c = tt
  carries-only (abort_chunk cs) c = tt
  carries-only (shutdown_chunk n) c = own (shutdown_chunk n) tt c
  carries-only shutdown_ack_chunk c = tt
  carries-only (error_chunk cs) c = tt
  carries-only (cookie_echo_chunk b) c = tt
  carries-only cookie_ack_chunk c = tt
  carries-only shutdown_complete_chunk c = tt
  carries-only (reconfig_chunk r) c = tt
  carries-only (forward_tsn_chunk f) c = own (forward_tsn_chunk f) tt c
  carries-only (i_forward_tsn_chunk f) c = own (i_forward_tsn_chunk f) tt c

-- ## What is called

module _ (ms : List Made) (sacks : List Sack) where
  -- a call that a chunk asks for
  asked : (w : Wire) (call : Call) → IsOf ms sacks w → AsksFor w call → IsForMade ms call
  asked (data_chunk d) (takes c arrival) of is = subst (λ (e : Data). Contains ms (made.data_chunk e)) (sym is) of
  asked (data_chunk d) (opens stream) of is = inl (record { chunk = d; own = of; is = is })
  asked (data_chunk d) (closes stream) of is = record { chunk = d; own = of; is = is }
  asked (data_chunk d) (discards tsn) of is = record { chunk = d; own = of; is = is }
  asked (forward_tsn_chunk f) (forwards g) of is = subst (λ (e : ForwardTsn). Contains ms (made.forward_tsn e)) (sym is) of
  asked (forward_tsn_chunk f) (opens stream) of is = inr (record { skip = f; own = of; named = is })
  asked _ _ of is = absurd is

  by-chunk : (w : Wire) (a : Arrival) → IsOf ms sacks w → Asks w a → IsFor ms sacks a
  by-chunk w (receives call) of is = asked w call of is
  by-chunk (sack_chunk s) (hears (acks sack back gone)) of is = record { sack = s; own = of; is = is }
  by-chunk (sack_chunk s) (hears (counts count)) of is = (s, of)
  by-chunk (shutdown_chunk n) (hears (passes tsn gone)) of is = subst (IsAcked sacks) (sym is) of
  by-chunk _ _ of is = absurd is

  by-param : (p : Parameter) (a : Arrival) → ParamAsks p a → IsFor ms sacks a
  by-param (outgoing_reset_request r) (receives (resets stream last)) is = tt
  by-param (reconfig_response r) (hears (restarts stream)) is = tt
  by-param _ _ is = absurd is

  by-type : (typ : ℕ) (a : Arrival) → TypeAsks typ a → IsFor ms sacks a
  by-type typ (begins tsn max limits) is = tt
  by-type typ (renews tsn size max) is = tt
  by-type typ _ is = absurd is

  module _ (datagram : List ℕ) (only : CarriesOnly ms sacks datagram) where
    pub of-call : (a : Arrival) → IsBrought datagram a → IsFor ms sacks a
    of-call a (by_chunk w c is) = by-chunk w a (only w c) is
    of-call a (by_param p c is) = by-param p a is
    of-call a (by_type typ c is) = by-type typ a is

    of-each : (calls : List Arrival) (old new : Halves) → Steps (IsBrought datagram) Does calls old new → AllByRecursion (IsFor ms sacks) calls
    of-each [] old new r = tt
    of-each (a ∷ calls) old new r = (of-call a r.1.0.asked, of-each calls r.0 new r.1.1)

    brings-so : BringsOnly ms sacks datagram
    brings-so old new h = of-each h.calls old new h.run

pub brings-only : (ms : List Made) (sacks : List Sack) (datagram : List ℕ) → IsWritten ms sacks datagram → BringsOnly ms sacks datagram
brings-only ms sacks datagram written = brings-so ms sacks datagram (carries-only ms sacks datagram written)

-- ## In sessions

-- it is written of more, too
more-written : (ms ns : List Made) (ss ts : List Sack) (bytes : List ℕ) → IsWritten ms ss bytes → IsWritten (ms ++ ns) (ss ++ ts) bytes
more-written ms ns ss ts bytes h = record {
  packet = h.packet;
  is_zero = h.is_zero;
  encoded = h.encoded;
  encodings = h.encodings;
  fits = h.fits;
  own = all_of_more ms (ms ++ ns) ss (ss ++ ts) (Contains-append_left ms ns) (Contains-append_left ss ts) h.packet.chunks h.own;
}

-- a session after a call by which its receiver reports
abbrev next : ReceiverCall → Reception → Session → Session
next c mid s = record {
  sending = s.sending;
  receiving = record { receiver = mid; accepted = s.receiving.accepted; read = s.receiving.read };
  made = s.made;
  sacks = reports_after c s.receiving.receiver s.sacks;
  written = s.written;
}

follows : (c : ReceiverCall) (s : Session) (mid : Reception) → AcksBy c s.receiving.receiver mid → ReceiverFollows c s (next c mid s)
follows (makes_sack credit bytes) s mid m =
    record { handed = tt; step = record { receiver = m.1.0; accepted = refl; read = refl }; accepted = m.1.1; after = refl }
follows forgets s mid m =
    record { handed = tt; step = record { receiver = m.1.0; accepted = refl; read = refl }; accepted = m.1.1; after = refl }
follows _ s mid m = absurd (false≢true m.0)

pub reports-more : (c : ReceiverCall) (r : Reception) (ss : List Sack) → is_acking c ≡ true → reports_after c r ss ≡ reported_by c r ++ ss
reports-more (makes_sack credit bytes) r ss e = refl
reports-more forgets r ss e = refl
reports-more _ r ss e = absurd (false≢true e)

goes-reporting : (cs : List ReceiverCall) (ss : List Sack) (s : Session) (new : Reception) → Runs AcksBy reported_by cs ss s.receiving.receiver new
    → GoesOnReporting ss s new
goes-reporting [] ss s new r = record { calls = []; ended = s; run = refl; receiver = sym r.1; more = ap (λ l. l ++ s.sacks) (sym r.0) }
goes-reporting (c ∷ cs) ss s new r =
    let t = next c r.mid s in
    let g = goes-reporting cs r.later t new r.rest in
    record {
      calls = c ∷ g.calls;
      ended = g.ended;
      run = (t, (follows c s r.mid r.made, g.run));
      receiver = g.receiver;
      more = g.more ∙ ap (λ l. r.later ++ l) (reports-more c s.receiving.receiver s.sacks r.made.0)
          ∙ sym (append_assoc r.later (reported_by c s.receiving.receiver) s.sacks) ∙ ap (λ l. l ++ s.sacks) (sym r.order);
    }

-- where a receiver is, one is behind its calls
record Reporting (ss : List Sack) (s : Session) (new : Option Reception) : Type 0 where
  receiver : Reception
  is : new ≡ Some receiver
  on : GoesOnReporting ss s receiver

reporting : (ss : List Sack) (s : Session) (new : Option Reception) → ReportsIn ss (Some s.receiving.receiver) new → Reporting ss s new
reporting ss s None h = absurd h
reporting ss s (Some r) h = record { receiver = r; is = refl; on = goes-reporting h.calls ss s r h.run }

pub each-comes : (old new : Sides) → Transmits true old new → (forth back : Session) → forth.sending.sender ≡ old.sender
    → old.receiver ≡ Some back.receiving.receiver → ComesOf forth back new
each-comes old new h forth back from to =
    let g = goes h.sent.calls h.made forth new.sender (subst (λ t. Runs SendsBy made_by h.sent.calls h.made t new.sender) (sym from) h.sent.run) in
    let r = reporting h.sacks back new.receiver (subst (λ o. ReportsIn h.sacks o new.receiver) to h.reported) in
    let written : IsWritten (h.made ++ forth.made) (h.sacks ++ back.sacks) new.bytes =
    more-written h.made forth.made h.sacks back.sacks new.bytes (h.written refl) in
    let own : IsWritten g.ended.made r.on.ended.sacks new.bytes =
    subst (λ ms. IsWritten ms r.on.ended.sacks new.bytes) (sym g.more)
    (subst (λ ks. IsWritten (h.made ++ forth.made) ks new.bytes) (sym r.on.more) written) in
    record {
      made = h.made;
      sacks = h.sacks;
      receiver = r.receiver;
      is = r.is;
      sends = g;
      reports = r.on;
      carries = carries-only g.ended.made r.on.ended.sacks new.bytes own;
      brings = brings-only g.ended.made r.on.ended.sacks new.bytes own;
    }
