-- The masks of a good book as the filter's world. No contract cites this file. The law that matters most: `book_world`.
-- Assumes nothing.
use mathlib.Core.Path.{sym, ◌∙◌}
use mathlib.Core.List.{List}
use Prim.Native.Nat.{ℕ, ◌+◌, ◌*◌, ◌^◌, ◌≤◌, ◌<◌}
use native.Mathlib.Omega.{arith}
use lib.ListN.{length, get_or}
use Rattle.domains.specs.Masks.{Alive, total}
use Rattle.domains.proofs.MaskLaws.{test_bit_high}
use Rattle.domains.proofs.MasksLaws.{has_inside, total_most}
use Rattle.book.specs.Layout.{slots, values, masks}
use Rattle.book.proofs.LayoutLaws.{length_masks, get_d_masks}
use Rattle.settling_model.specs.Settled.{LacksAt}
use Rattle.settling_model.proofs.SettledLaws.{lacks_not_has, not_has_lacks}
use Rattle.filter_model.specs.Open.{cells_size}
use Rattle.filter_model.specs.State.{World}
use Rattle.settle_fault.specs.Ready.{FitBook}

module _ (b : List ℕ) (fit : FitBook b) where
  book_below : (s : ℕ) → s < length (masks b) → get_or (masks b) s 0 < 2 ^ values b
  book_below s inside =
      let slot : s < slots b = rw (length_masks b) at inside in
      rw (get_d_masks b s slot) (fit.mask s slot).below

  -- no value from k up
  book_values : (s w : ℕ) → values b ≤ w → LacksAt (masks b) s w
  book_values s w k≤w =
      not_has_lacks (masks b) s w
      (λ has. lacks_not_has (masks b) s w (test_bit_high (values b) (get_or (masks b) s 0) w (book_below s (has_inside (masks b) s w has)) k≤w) has)

  book_alive : Alive (masks b)
  book_alive =
      record {
        each = λ s inside empty.
            let slot : s < slots b = rw (length_masks b) at inside in
            (fit.mask s slot).nonempty (sym (get_d_masks b s slot) ∙ empty);
      }

  pub book_world : (cells trail : List ℕ) → cells_size (slots b) (values b) ≤ length cells → 2 * slots b + 3 * (values b * slots b) ≤ length trail
      → World (masks b) cells trail (slots b) (values b) 0
  book_world cells trail rows entries =
      let ones : total (masks b) ≤ values b * slots b = rw (length_masks b) at (total_most (values b) (masks b) book_below) in
      record {
        slots = omega (arith, length_masks b);
        rows = rows;
        room = omega arith;
        slots_fit = omega (arith, fit.slots_most);
        values_fit = fit.values_most;
        values = book_values;
        alive = book_alive;
      }
