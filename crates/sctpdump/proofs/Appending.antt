-- Messages are read one after the other.
use Rattle.std.proofs.Common.{◌≡◌, ℕ, true, false, List, [], ◌∷◌, ◌++◌, Some, None, refl, sym, ap, subst, ◌∙◌}
use Rattle.std.specs.Prelude.{option_map}
use Rattle.std.proofs.lemmas.List.{append-nil, append_assoc}
use Rattle.sctp_reassembly.specs.declared.reassembly_queue.chunks.Chunks.{Chunks}
use Rattle.sctp_reassembly.specs.reassembly_queue.ReassemblyQueue.{at_start}
use Rattle.sctp_receiver.specs.Receiver.{Reception, message_on, after_read}
use Rattle.sctpdump.specs.Messages.{Reads, ReadsOnto}

-- one more is read
pub reads_more : (s : ℕ) (ms : List Chunks) (m : Chunks) (old mid : Reception)
    → Reads s ms old mid → option_map at_start (message_on s mid) ≡ Some m → Reads s (ms ++ m ∷ []) old (after_read s mid)
unfolding Reads
reads_more s [] m old mid r e =
    (subst (λ (x : Reception). option_map at_start (message_on s x) ≡ Some m) r e, ap (after_read s) r)
reads_more s (x ∷ xs) m old mid r e = (r.0, reads_more s xs m (after_read s old) mid r.1 e)

-- nothing is read yet
pub reads_onto_none : (s : ℕ) (before : List Chunks) (r : Reception) → ReadsOnto s before before r r
unfolding Reads
reads_onto_none s before r = record { messages = []; read = refl; joined = sym (append-nil before) }

-- one more is appended
pub reads_onto_more : (s : ℕ) (before after : List Chunks) (m : Chunks) (old mid : Reception)
    → ReadsOnto s before after old mid → option_map at_start (message_on s mid) ≡ Some m → ReadsOnto s before (after ++ m ∷ []) old (after_read s mid)
reads_onto_more s before after m old mid r e = record {
  messages = r.messages ++ m ∷ [];
  read = reads_more s r.messages m old mid r.read e;
  joined = ap (λ (l : List Chunks). l ++ m ∷ []) r.joined ∙ append_assoc before r.messages (m ∷ []);
}
