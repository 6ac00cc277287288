-- Books that differ in the idle byte alone (document 02, request two).
--   OnlyByte3 b c   the bytes b and c differ in byte 3 alone
--   OtherIdle b c   and byte 3 of each is at most k: it names a value, or none
-- `parts_same` and `refusal_same` say what such books share. Assumes nothing.
use Rattle.std.specs.Prelude.{◌≡◌, List, ℕ, ◌≤◌, length, get_or}
use Rattle.book.specs.Layout.{values, idle}

pub record OnlyByte3 (b c : List ℕ) : Type 0 where
  pub size : length c ≡ length b
  pub bytes : (i : ℕ) → (i ≡ 3 → ⊥) → get_or c i 0 ≡ get_or b i 0

pub record OtherIdle (b c : List ℕ) : Type 0 where
  pub only : OnlyByte3 b c
  pub known : idle b ≤ values b
  pub also_known : idle c ≤ values c
