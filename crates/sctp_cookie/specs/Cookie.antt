-- State Cookies (RFC 9260 5.1.3).
use Rattle.std.specs.Prelude.{ℕ, List, ◌++◌}
use Rattle.std.specs.Int.{w64, to_be_bytes}

-- a moment in eight bytes, the highest first
unfoldable pub be64 : ℕ → List ℕ
be64 moment = to_be_bytes w64 moment

-- what the code is made of: the moment of the making, and what the responder wants back
abbrev pub content : ℕ → List ℕ → List ℕ
content moment payload = be64 moment ++ payload

-- the cookie, under a code of 32 bytes: its content, and the code of that
abbrev pub sealed : (List ℕ → List ℕ) → ℕ → List ℕ → List ℕ
sealed code moment payload = content moment payload ++ code (content moment payload)
