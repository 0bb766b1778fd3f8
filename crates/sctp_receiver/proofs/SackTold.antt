-- What the SACK of a receiver tells, after whatever run of calls it stands so.
use Rattle.sctp_receiver.proofs.Names.{◌≡◌, ℕ, ◌++◌, drop, Result, Ok, Err, ap, sym, ◌∙◌, IfOk, OnOk, take-append-drop, Sack, sack_of, ReceiverRefusal}
use Rattle.sctp_receiver.proofs.Names.{AfterEachLimitedRun, AfterEachRunWithRepeats, Reception, after_sack_within, duplicates_answered, sack_entries, window}
use Rattle.sctp_data.specs.declared.chunk.chunk_selective_ack.ChunkSelectiveAck.{ChunkSelectiveAck}
use Rattle.sctp_receiver.specs.Credit.{cost_held, credit_within, left_of}
use Rattle.sctp_receiver.specs.Receiver.{sack_within}
use Rattle.sctp_receiver.proofs.CreditTold as credits
use Rattle.sctp_receiver.proofs.RepeatsTold as repeats

pub credit : (r : Reception) (room : ℕ) (o : Result ChunkSelectiveAck ReceiverRefusal) → IfOk o (λ s. sack_of s ≡ sack_within (window r) room r)
    → IfOk o (λ s. AfterEachLimitedRun (λ l t. t.receiver ≡ r → s.advertised_receiver_window_credit ≡ left_of l.window (cost_held r)))
credit r room (Err e) h = tt
credit r room (Ok s) h = λ tsn max l calls t usize run few is.
    ap (λ (k : Sack). k.advertised_receiver_window_credit) h ∙ ap (credit_within room) (sym is) ∙ credits.exact tsn max l calls t usize run few room
    ∙ ap (λ x. left_of l.window (cost_held x)) is

pub duplicates : (r new : Reception) (room : ℕ) (o : Result ChunkSelectiveAck ReceiverRefusal) → IfOk o (λ s. sack_of s ≡ sack_within (window r) room r)
    → OnOk o (new ≡ after_sack_within room r)
    → IfOk o (λ s. AfterEachRunWithRepeats (λ t d. t.receiver ≡ r → d.again ≡ d.told ++ (s.duplicate_tsn.items ++ new.duplicates)))
duplicates r new room (Err e) h rest = tt
duplicates r new room (Ok s) h rest = λ tsn max limits calls t d run is.
    let n = duplicates_answered (sack_entries room) r in
    let told = ap (λ (k : Sack). k.duplicate_tsn) h in
    let left = ap (λ (x : Reception). x.duplicates) rest in
    repeats.once tsn max limits calls t d run ∙ ap (λ (x : Reception). d.told ++ x.duplicates) is
    ∙ ap (λ xs. d.told ++ xs) (sym (take-append-drop n r.duplicates))
    ∙ ap (λ xs. d.told ++ (xs ++ drop n r.duplicates)) (sym told)
    ∙ ap (λ xs. d.told ++ (s.duplicate_tsn.items ++ xs)) (sym left)
