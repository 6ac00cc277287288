-- A table's front written out as bytes. No contract cites this file. The law that matters most: `overlay_written`, what `write16` leaves
-- of a front that stands in a longer list.
-- Assumes nothing.
use mathlib.Core.Path.{◌≡◌, sym, ap, ◌∙◌}
use mathlib.Core.List.{List, ◌++◌}
use Prim.Native.Nat.{ℕ, ◌*◌, ◌≤◌}
use native.Mathlib.Nat.{mul-le-mul}
use native.Mathlib.Omega.{arith}
use lib.ListN.{length, take, drop, length-append}
use lib.Seq.{take_at}
use Rattle.book.specs.GoodFacts.{GoodFacts}
use Rattle.closing_model.specs.Start.{entries}
use Rattle.closing.specs.Close.{overlay}
use Rattle.elements.specs.Elements.{bytes_of, whole}
use Rattle.elements.proofs.ElementsLaws.{length_bytes_of}
use Rattle.entries_model.specs.Entries.{full_limits}

-- the largest table has 32 · 257 entries
pub entries_most : (b : List ℕ) → GoodFacts full_limits b → entries b ≤ 8224
entries_most b good = mul-le-mul {m₂ = 257} good.header.values_most (omega (arith, good.header.slots_most))

module _ (m : ℕ) (front rest : List ℕ) (long : length front ≡ m) where
  pub front_inside : m ≤ length (front ++ rest)
  front_inside = omega (arith, length-append front rest)

  pub length_front : m ≡ length (take m (front ++ rest))
  length_front = sym (ap length (take_at front rest m long) ∙ long)

  -- an output with room for m elements takes the bytes of the front
  pub front_fits : (len : ℕ) → m ≤ whole 2 len → 2 * length (take m (front ++ rest)) ≤ len
  front_fits len room = omega (arith, length_front)

  pub overlay_written : (out out' : List ℕ) → out' ≡ bytes_of 2 (take m (front ++ rest)) ++ drop (2 * length (take m (front ++ rest))) out
      → out' ≡ overlay (bytes_of 2 front) out
  overlay_written out out' written =
      written ∙ rw (take_at front rest m long) (ap (λ (j : ℕ). bytes_of 2 front ++ drop j out) (sym (length_bytes_of 2 front)))
