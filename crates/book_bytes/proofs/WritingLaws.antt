-- The masks, stored one behind the other, are those of book_bytes' `specs/BookBytes.antt`: `masks_more`, `masks_all`. No contract cites this file.
-- Assumes nothing.
use mathlib.Core.Path.{◌≡◌, refl, sym, ap, ◌∙◌}
use mathlib.Core.List.{List, [], ◌∷◌, ◌++◌}
use Prim.Native.Nat.{ℕ, zero, suc, ◌+◌, ◌*◌, ◌≤◌, ◌<◌}
use native.Mathlib.Numerals.{add-one}
use native.Mathlib.Omega.{arith}
use lib.ListN.{length, get_or, drop, drop_of_length-le}
use lib.Seq.{sets, length-sets}
use Rattle.elements.specs.Elements.{digits, bytes_of}
use Rattle.elements.proofs.ElementsLaws.{sets_append, bytes_of_empty}

-- ---- the masks
-- what is left to store from slot s is what was to be stored from slot 0
pub record Masking (out₀ ms out : List ℕ) (s : ℕ) : Type 0 where
  pub within : s ≤ length ms
  pub long : length out ≡ length out₀
  pub same : sets out (12 + 4 * s) (bytes_of 4 (drop s ms)) ≡ sets out₀ 12 (bytes_of 4 ms)

bytes_more : (x : ℕ) (xs : List ℕ) → bytes_of 4 (x ∷ xs) ≡ digits 4 x ++ bytes_of 4 xs
unfolding bytes_of
bytes_more x xs = refl

drop_next : (xs : List ℕ) (s : ℕ) → s < length xs → drop s xs ≡ get_or xs s 0 ∷ drop (suc s) xs
drop_next [] s inside = absurd (omega arith)
drop_next (x ∷ xs) zero inside = refl
drop_next (x ∷ xs) (suc s) inside = drop_next xs s (omega arith)

pub masks_more : {out₀ ms out out' : List ℕ} {s x : ℕ} → s < length ms → Masking out₀ ms out s → x ≡ get_or ms s 0
    → out' ≡ sets out (12 + 4 * s) (digits 4 x) → Masking out₀ ms out' (s + 1)
masks_more {ms = ms} {out = out} {s = s} {x = x} inside so_far is stored =
    let rest = bytes_of 4 (drop (s + 1) ms) in
    let left : drop s ms ≡ x ∷ drop (s + 1) ms =
    drop_next ms s inside ∙ ap (λ (y : ℕ). y ∷ drop (suc s) ms) (sym is) ∙ ap (λ (i : ℕ). x ∷ drop i ms) (sym (add-one s))
    in
    record {
      within = omega arith;
      long = ap length stored ∙ length-sets out (12 + 4 * s) (digits 4 x) ∙ so_far.long;
      same =
          ap (λ (l : List ℕ). sets l (12 + 4 * (s + 1)) rest) stored
          ∙ sets_append out (12 + 4 * s) (digits 4 x) rest (12 + 4 * (s + 1)) (omega arith)
          ∙ ap (sets out (12 + 4 * s)) (sym (ap (bytes_of 4) left ∙ bytes_more x (drop (s + 1) ms)))
          ∙ so_far.same;
    }

pub masks_all : {out₀ ms out : List ℕ} {s : ℕ} → length ms ≤ s → Masking out₀ ms out s → out ≡ sets out₀ 12 (bytes_of 4 ms)
masks_all {ms = ms} {out = out} {s = s} end so_far =
    sym (ap (sets out (12 + 4 * s)) (ap (bytes_of 4) (drop_of_length-le ms end) ∙ bytes_of_empty 4)) ∙ so_far.same
