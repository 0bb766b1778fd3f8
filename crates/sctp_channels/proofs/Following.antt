-- Messages of RFC 8832 are taken out, one after the other.
use Rattle.std.proofs.Common.{◌≡◌, ℕ, zero, suc, Bool, true, List, [], ◌∷◌, ◌++◌, Option, Some, None, refl, ap, sym, ◌∙◌, subst}
use Rattle.std.specs.Prelude.{replicate}
use Rattle.sctp_association.specs.declared.association.Association.{Association}
use Rattle.sctp_association.specs.Reads.{AreReadOff, length_of, message_in}
use Rattle.sctp_channels.specs.Reading.{ReadsControl, TakesControl, TakesControlOf, is_control, is_data, tells_data}
use Rattle.sctp_data.specs.ChunkSet.{ChunkSet}
use Rattle.sctp_data.specs.declared.chunk.chunk_payload_data.PayloadProtocolIdentifier.{PayloadProtocolIdentifier}

-- ## Steps that leave what was received

reads_from : (now : ℕ) (ss : List ℕ) (a b c : Association) → b.inbound ≡ a.inbound → ReadsControl now ss b c → ReadsControl now ss a c
reads_from now [] a b c same h = h ∙ same
reads_from now (s ∷ ss) a b c same (mid, control, read, rest) =
    (mid, subst (λ i. is_control (message_in s i) ≡ true) same control, subst (λ i. AreReadOff now s i mid.inbound) same read, rest)

reads_to : (now : ℕ) (ss : List ℕ) (a b c : Association) → ReadsControl now ss a b → c.inbound ≡ b.inbound → ReadsControl now ss a c
reads_to now [] a b c h same = same ∙ h
reads_to now (s ∷ ss) a b c (mid, control, read, rest) same = (mid, control, read, reads_to now ss mid b c rest same)

reads_more : (now : ℕ) (ss ts : List ℕ) (a b c : Association) → ReadsControl now ss a b → ReadsControl now ts b c → ReadsControl now (ss ++ ts) a c
reads_more now [] ts a b c h k = reads_from now ts a b c h k
reads_more now (s ∷ ss) ts a b c (mid, control, read, rest) k = (mid, control, read, reads_more now ss ts mid b c rest k)

-- one more at the end
reads_last : (now s n : ℕ) (a b c : Association) → ReadsControl now (replicate n s) a b → is_control (message_in s b.inbound) ≡ true
    → AreReadOff now s b.inbound c.inbound → ReadsControl now (replicate (suc n) s) a c
reads_last now s zero a b c h control read =
    (c, subst (λ i. is_control (message_in s i) ≡ true) h control, subst (λ i. AreReadOff now s i c.inbound) h read, refl)
reads_last now s (suc n) a b c (mid, first, was, rest) control read = (mid, first, was, reads_last now s n mid b c rest control read)

-- ## Of one stream

pub of_same : (now s : ℕ) (a b : Association) → b.inbound ≡ a.inbound → TakesControlOf now s a b
of_same now s a b same = record { count = 0; reads = same }

pub of_then : (now s : ℕ) (a b c : Association) → TakesControlOf now s a b → c.inbound ≡ b.inbound → TakesControlOf now s a c
of_then now s a b c h same = record { count = h.count; reads = reads_to now (replicate h.count s) a b c h.reads same }

pub of_read : (now s : ℕ) (a b c : Association) → TakesControlOf now s a b → is_control (message_in s b.inbound) ≡ true
    → AreReadOff now s b.inbound c.inbound → TakesControlOf now s a c
of_read now s a b c h control read = record { count = suc h.count; reads = reads_last now s h.count a b c h.reads control read }

pub of_from : (now s : ℕ) (a b c : Association) → b.inbound ≡ a.inbound → TakesControlOf now s b c → TakesControlOf now s a c
of_from now s a b c same h = record { count = h.count; reads = reads_from now (replicate h.count s) a b c same h.reads }

of_joined : (now s n : ℕ) (a b c : Association) → ReadsControl now (replicate n s) a b → TakesControlOf now s b c → TakesControlOf now s a c
of_joined now s zero a b c same k = record { count = k.count; reads = reads_from now (replicate k.count s) a b c same k.reads }
of_joined now s (suc n) a b c (mid, control, read, rest) k =
    let joined = of_joined now s n mid b c rest k in
    record { count = suc joined.count; reads = (mid, control, read, joined.reads) }

pub of_more : (now s : ℕ) (a b c : Association) → TakesControlOf now s a b → TakesControlOf now s b c → TakesControlOf now s a c
of_more now s a b c h k = of_joined now s h.count a b c h.reads k

-- ## Of some streams

pub some_same : (now : ℕ) (a b : Association) → b.inbound ≡ a.inbound → TakesControl now a b
some_same now a b same = record { streams = []; reads = same }

pub some_of : (now s : ℕ) (a b : Association) → TakesControlOf now s a b → TakesControl now a b
some_of now s a b h = record { streams = replicate h.count s; reads = h.reads }

pub some_more : (now : ℕ) (a b c : Association) → TakesControl now a b → TakesControl now b c → TakesControl now a c
some_more now a b c h k = record { streams = h.streams ++ k.streams; reads = reads_more now h.streams k.streams a b c h.reads k.reads }

-- ## What is next

pub data_told : (b : Bool) (m : Option ChunkSet) (o : Option (ℕ × PayloadProtocolIdentifier)) → o ≡ length_of m → tells_data o ≡ b → is_data m ≡ b
data_told b None o is told = sym (ap tells_data is) ∙ told
data_told b (Some s) o is told = sym (ap tells_data is) ∙ told
