-- A run, piece by piece.
use Rattle.std.proofs.Common.{◌≡◌, ℕ, ◌+◌, ◌^◌, ◌<◌, ◌≤◌, List, [], ◌∷◌, ◌++◌, length, Some, None, IfSome, ◌⊎◌, inl, inr, refl, ap, sym, subst, ◌∙◌, arith}
use Rattle.std.specs.Prelude.{Option, IsSomeAnd, option_to_list}
use Rattle.std.specs.List.{concat}
use Rattle.std.specs.Io.KnownBytes.{Keeps}
use Rattle.std.proofs.KnownBytes.{Appends-trans, Appends-nil, Appends-kept}
use Rattle.std.proofs.lemmas.List.{append-nil, length-append}
use lib.ListN.{length-drop}
use Rattle.std.proofs.lemmas.List.Folds.{concat-append}
use Rattle.std.proofs.lemmas.Grind.{flat_map-append}
use Rattle.sctp_show.specs.declared.run.Counts.{Counts}
use Rattle.sctp_show.specs.declared.text.Options.{Options}
use Rattle.sctp_capture.specs.declared.record.Record.{Record}
use Rattle.sctp_capture.specs.declared.input.Format.{Format}
use Rattle.sctp_capture.specs.declared.input.Format.TheVariants.{Lines, Capture, Blocks}
use Rattle.sctp_capture.specs.Blocks.{Known, Piece, IsBegun, IsEnd}
use Rattle.sctp_show.specs.Text.{IsText, AreTexts, shown_by, shown_in}
use Rattle.sctp_capture.specs.Input.{IsOpened, IsPiece, Pieces, records_of, IsInput, IsTaken, unread_by, unread_in, most_pieces}
use Rattle.sctp_show.specs.Run.{PrintsRecord, Prints}

-- the pieces so far, by what was to be read and what is left
pub record Walked (format : Format) (begun : Known) (bytes : List ℕ) (k : Known) (left : List ℕ) (records : List Record) : Type 0 where
  pub pieces : List Piece
  pub walk : Pieces format begun bytes pieces k left
  pub are : records ≡ records_of pieces

-- the records so far
abbrev pub HasRead : Format → Known → Option (List ℕ) → Known → Option (List ℕ) → List Record → Type 0
HasRead format begun first k left records = IfSome first (λ xs. IsSomeAnd left (λ ys. Walked format begun xs k ys records))

pub record SoFar (o : Options) (format : Format) (begun : Known) (first : Option (List ℕ)) (k : Known) (left old new : Option (List ℕ))
    (before after : Counts) : Type 0 where
  pub records : List Record
  pub read : HasRead format begun first k left records
  pub printed : Prints o records before after old new

pieces_none : (format : Format) (k : Known) (bytes : List ℕ) → Pieces format k bytes [] k bytes
unfolding Pieces
pieces_none format k bytes = (refl, refl)

-- a walk goes one piece further
pieces_next : (format : Format) (k after : Known) (bytes left : List ℕ) (pieces : List Piece) (p : Piece) → Pieces format k bytes pieces after left
    → 0 < length left → IsPiece format after left p → Pieces format k bytes (pieces ++ p ∷ []) p.known p.left
unfolding Pieces
pieces_next format k after bytes left [] p so_far some is =
    let P : Known → Type 0 = λ v. IsPiece format v bytes p in
    let Q : List ℕ → Type 0 = λ l. IsPiece format after l p in
    let R : List ℕ → Type 0 = λ l. 0 < length l in
    (subst R (sym so_far.1) some, subst P (sym so_far.0) (subst Q (sym so_far.1) is), (refl, refl))
pieces_next format k after bytes left (q ∷ qs) p so_far some is = (so_far.0, so_far.1, pieces_next format q.known after q.left left qs p so_far.2 some is)

pub read_none : (format : Format) (k : Known) (a : Option (List ℕ)) → HasRead format k a k a []
read_none format k None = tt
read_none format k (Some xs) = record { pieces = []; walk = pieces_none format k xs; are = refl }

pub so_far_none : (o : Options) (format : Format) (k : Known) (a old : Option (List ℕ)) (c : Counts) → SoFar o format k a k a old old c c
so_far_none o format k a old c =
    let zero : (n : ℕ) → n ≡ n + 0 = λ n. omega arith in
    record {
      records = [];
      read = read_none format k a;
      printed = ([], tt, zero c.records, zero c.unread, zero c.shown, Appends-nil old);
    }

records_next : (pieces : List Piece) (p : Piece) → records_of (pieces ++ p ∷ []) ≡ records_of pieces ++ option_to_list p.found
records_next pieces p =
    flat_map-append (λ q. option_to_list q.found) pieces (p ∷ []) ∙ ap (λ l. records_of pieces ++ l) (append-nil (option_to_list p.found))

read_next : (format : Format) (begun k after : Known) (a b c : Option (List ℕ)) (records : List Record) (found : Option Record)
    → HasRead format begun a k b records → IfSome b (λ xs. IsTaken format k xs found after c) → HasRead format begun a after c (records ++ option_to_list found)
read_next format begun k after None b c records found read next = tt
read_next format begun k after (Some xs) None c records found read next = absurd read
read_next format begun k after (Some xs) (Some ys) None records found read next = absurd next.5
read_next format begun k after (Some xs) (Some ys) (Some zs) records found read next =
    let p : Piece = next.0 in
    let walk : Pieces format begun xs (read.pieces ++ p ∷ []) p.known p.left = pieces_next format begun k xs ys read.pieces p read.walk next.1 next.2 in
    let same_known : p.known ≡ after = next.4 in
    let same_left : p.left ≡ zs = sym next.5 in
    let same_found : p.found ≡ found = next.3 in
    let P : Known → Type 0 = λ v. Pieces format begun xs (read.pieces ++ p ∷ []) v p.left in
    let Q : List ℕ → Type 0 = λ l. Pieces format begun xs (read.pieces ++ p ∷ []) after l in
    record {
      pieces = read.pieces ++ p ∷ [];
      walk = subst Q same_left (subst P same_known walk);
      are = ap (λ l. l ++ option_to_list found) read.are ∙ ap (λ o. records_of read.pieces ++ option_to_list o) (sym same_found)
          ∙ sym (records_next read.pieces p);
    }

texts_next : (o : Options) (n : ℕ) (records : List Record) (texts : List (List ℕ)) (r : Record) (t : List ℕ) → AreTexts o n records texts
    → IsText o (n + length records) r t → AreTexts o n (records ++ r ∷ []) (texts ++ t ∷ [])
texts_next o n [] [] r t all is = let here : n + 0 ≡ n = omega arith in (rw here at is, tt)
texts_next o n [] (u ∷ us) r t all is = absurd all
texts_next o n (q ∷ qs) [] r t all is = absurd all
texts_next o n (q ∷ qs) (u ∷ us) r t all is =
    let same : n + length {A = Record} (q ∷ qs) ≡ (n + 1) + length qs = omega arith in
    (all.0, texts_next o (n + 1) qs us r t all.1 (rw same at is))

shown_next : (texts : List (List ℕ)) (t : List ℕ) → shown_in (texts ++ t ∷ []) ≡ shown_in texts + shown_by t
shown_next [] t = omega arith
shown_next (u ∷ us) t = let rest = shown_next us t in omega (arith, rest)

unread_next : (records : List Record) (r : Record) → unread_in (records ++ r ∷ []) ≡ unread_in records + unread_by r
unread_next [] r = omega arith
unread_next (q ∷ qs) r = let rest = unread_next qs r in omega (arith, rest)

printed_next : (o : Options) (old mid new : Option (List ℕ)) (records : List Record) (r : Record) (before now after : Counts)
    → Prints o records before now old mid → PrintsRecord o r now after mid new → Prints o (records ++ r ∷ []) before after old new
printed_next o old mid new records r before now after printed next =
    let texts : List (List ℕ) = printed.0 in
    let t : List ℕ = next.0 in
    let joined : concat (texts ++ t ∷ []) ≡ concat texts ++ t = concat-append texts (t ∷ []) ∙ ap (λ l. concat texts ++ l) (append-nil t) in
    let longer : length (records ++ r ∷ []) ≡ length records + 1 = length-append records (r ∷ []) in
    let place : now.records + 1 ≡ (before.records + 1) + length records = omega (arith, printed.2) in (
      texts ++ t ∷ [],
      texts_next o (before.records + 1) records texts r t printed.1 (rw place at next.1),
      omega (arith, printed.2, next.2, longer),
      omega (arith, printed.3, next.3, unread_next records r),
      omega (arith, printed.4, next.4, shown_next texts t),
      rw joined (Appends-trans old mid new (concat texts) t printed.5 next.5),
    )

-- what was printed is sent off
pub so_far_sent : (o : Options) (format : Format) (begun k : Known) (a b old mid new : Option (List ℕ)) (before after : Counts)
    → SoFar o format begun a k b old mid before after → Keeps mid new → SoFar o format begun a k b old new before after
so_far_sent o format begun k a b old mid new before after so kept =
    let p = so.printed in
    record { records = so.records; read = so.read; printed = (p.0, p.1, p.2, p.3, p.4, Appends-kept old mid new (concat p.0) p.5 kept) }

-- one record more is read and printed
pub so_far_record : (o : Options) (format : Format) (begun k known : Known) (a b c old mid new : Option (List ℕ)) (before now after : Counts) (r : Record)
    → SoFar o format begun a k b old mid before now → IfSome b (λ xs. IsTaken format k xs (Some r) known c) → PrintsRecord o r now after mid new
    → SoFar o format begun a known c old new before after
so_far_record o format begun k known a b c old mid new before now after r so next prints = record {
  records = so.records ++ r ∷ [];
  read = read_next format begun k known a b c so.records (Some r) so.read next;
  printed = printed_next o old mid new so.records r before now after so.printed prints;
}

-- one piece more is read, which is no record
pub so_far_nothing : (o : Options) (format : Format) (begun k known : Known) (a b c old new : Option (List ℕ)) (before after : Counts)
    → SoFar o format begun a k b old new before after → IfSome b (λ xs. IsTaken format k xs None known c)
    → SoFar o format begun a known c old new before after
so_far_nothing o format begun k known a b c old new before after so next =
    let same : so.records ++ [] ≡ so.records = append-nil so.records in
    let read : HasRead format begun a known c (so.records ++ []) = read_next format begun k known a b c so.records None so.read next in
    record { records = so.records; read = rw same at read; printed = so.printed }

-- what is opened is the input
pub opened_input : (format : Format) (z a b : Option (List ℕ)) → Keeps z a → IfSome a (λ xs. IsOpened format xs b) → IfSome z (λ bytes. IsOpened format bytes b)
opened_input format None a b keeps opened = tt
opened_input format (Some bytes) None b keeps opened = absurd keeps
opened_input format (Some bytes) (Some xs) b keeps opened = rw keeps at opened

-- the run ended at the end of the input, or was stopped
pub at_end : (k : Known) (b : Option (List ℕ)) (stopped : Type 0) → IfSome b (λ xs. IsEnd k xs) → IfSome b (λ xs. IsEnd k xs ⊎ stopped)
at_end k None stopped end = tt
at_end k (Some xs) stopped end = inl end

pub at_stop : (k : Known) (b : Option (List ℕ)) (stopped : Type 0) → stopped → IfSome b (λ xs. IsEnd k xs ⊎ stopped)
at_stop k None stopped is = tt
at_stop k (Some xs) stopped is = inr is

all_read : (format : Format) (begun k : Known) (z a b : Option (List ℕ)) (records : List Record) (stopped : Type 0) → IsBegun begun
    → IfSome z (λ bytes. IsOpened format bytes a) → HasRead format begun a k b records → IfSome b (λ xs. IsEnd k xs ⊎ stopped)
    → IfSome z (λ bytes. IsInput stopped bytes records)
all_read format begun k None a b records stopped is_begun opened read next = tt
all_read Lines begun k (Some bytes) None b records stopped is_begun opened read next = absurd opened.3
all_read (Capture h) begun k (Some bytes) None b records stopped is_begun opened read next = absurd opened.1
all_read Blocks begun k (Some bytes) None b records stopped is_begun opened read next = absurd opened.2
all_read format begun k (Some bytes) (Some xs) None records stopped is_begun opened read next = absurd read
all_read format begun k (Some bytes) (Some xs) (Some ys) records stopped is_begun opened read next = record {
  format = format;
  body = xs;
  opened = opened;
  begun = begun;
  is_begun = is_begun;
  pieces = read.pieces;
  after = k;
  rest = ys;
  walk = read.walk;
  ended = next;
  are = read.are;
}

-- what a run did that ended here
pub so_far_all : (o : Options) (format : Format) (begun k : Known) (z a b old new : Option (List ℕ)) (before after : Counts) (stopped : Type 0)
    → IsBegun begun → IfSome z (λ bytes. IsOpened format bytes a) → SoFar o format begun a k b old new before after
    → IfSome b (λ xs. IsEnd k xs ⊎ stopped)
    → (records : List Record) × IfSome z (λ bytes. IsInput stopped bytes records) × Prints o records before after old new
so_far_all o format begun k z a b old new before after stopped is_begun opened so next =
    (so.records, all_read format begun k z a b so.records stopped is_begun opened so.read next, so.printed)

-- ---- how many pieces there may be

-- so many pieces were taken, and there may be no more than so many
abbrev pub HasRoom : Known → Option (List ℕ) → ℕ → Known → Option (List ℕ) → Type 0
HasRoom begun first n k left = IfSome first (λ xs. IsSomeAnd left (λ ys. most_pieces k ys + n ≤ most_pieces begun xs))

pub room_first : (k : Known) (a : Option (List ℕ)) → HasRoom k a 0 k a
room_first k None = tt
room_first k (Some xs) = omega arith

pub room_next : (begun k after : Known) (a b c : Option (List ℕ)) (n : ℕ) → HasRoom begun a n k b
    → IfSome b (λ xs. IsSomeAnd c (λ rest. most_pieces after rest < most_pieces k xs)) → HasRoom begun a (n + 1) after c
room_next begun k after None b c n room next = tt
room_next begun k after (Some xs) None c n room next = absurd room
room_next begun k after (Some xs) (Some ys) None n room next = absurd next
room_next begun k after (Some xs) (Some ys) (Some zs) n room next = omega (arith, room, next)

-- an input of as many pieces as are counted at most has as many bytes, but for two
pub room_full : (format : Format) (begun k : Known) (z a b : Option (List ℕ)) (n : ℕ) → IsBegun begun → IfSome z (λ bytes. IsOpened format bytes a)
    → HasRoom begun a n k b → 2 ^ 64 ≤ n + 1 → IfSome z (λ xs. 2 ^ 64 ≤ length xs + 2)
room_full format begun k None a b n is_begun opened room many = tt
room_full Lines begun k (Some xs) None b n is_begun opened room many = absurd opened.3
room_full (Capture h) begun k (Some xs) None b n is_begun opened room many = absurd opened.1
room_full Blocks begun k (Some xs) None b n is_begun opened room many = absurd opened.2
room_full format begun k (Some xs) (Some ys) None n is_begun opened room many = absurd room
room_full format begun k (Some xs) (Some ys) (Some zs) n is_begun opened room many =
    let most : most_pieces begun ys ≡ length ys + 1 = rw is_begun.1 refl in
    omega (arith, room, most, body_le format xs ys opened, many)
  where
    body_le : (format : Format) (xs ys : List ℕ) → IsOpened format xs (Some ys) → length ys ≤ length xs
    body_le Lines xs ys opened = rw opened.3 (omega arith)
    body_le (Capture h) xs ys opened = rw opened.1 (omega (arith, length-drop 24 xs))
    body_le Blocks xs ys opened = rw opened.2 (omega arith)
