-- The laws of `OtherValues` of `specs/Values.antt`: that it holds (`others_none`, `others_of`), what it says where values are left (`others_free`),
-- several (`others_wide`) or at most one (`others_few`), and a strike of one of them (`less_with`, `others_less`). No contract cites this file.
-- Assumes nothing.
use mathlib.Core.Path.{◌≡◌, sym, ap, ◌∙◌}
use Prim.Native.Nat.{ℕ, ◌+◌, ◌^◌, ◌≤◌, ◌<◌}
use native.Mathlib.Omega.{arith}
use lib.Count.{ones}
use Rattle.domains.specs.Mask.{test_bit, clear_bit, Has, Fixed}
use Rattle.domains.proofs.MaskLaws.{test_bit_lt, clear_bit_has, test_bit_clear_bit_same, test_bit_clear_bit_le, test_bit_put_same, clear_bit_put}
use Rattle.domains.proofs.MaskLaws.{ones_none, ones_empty, ones_clear_bit}
use Rattle.filter_model.proofs.StoreLaws.{many_free}
use Rattle.slots.specs.Values.{OtherValues}

-- ---- OtherValues
pub others_none : (m v : ℕ) → (Has m v → ⊥) → OtherValues m v 0
others_none m v absent = record { besides = λ has. absurd (absent has); has = λ some. absurd (omega (arith, some)) }

pub others_of : (m v : ℕ) {rest : ℕ} → Has m v → rest ≡ clear_bit m v → OtherValues m v rest
others_of m v has is = record { besides = λ _. is; has = λ _. has }

-- ---- several are left
module _ (m v : ℕ) {rest : ℕ} (others : OtherValues m v rest) where
  pub others_few : ones rest ≤ 1 → Has m v → ones m ≤ 2
  others_few few has = omega (arith, few, has, ap ones (others.besides has), ones_clear_bit m v)

  pub others_free : 0 < rest → Has m v × (Fixed m v → ⊥)
  others_free some =
      let has = others.has some in (
        has,
        many_free m
            (λ one.
            let none : ones rest ≡ 0 = omega (arith, one, has, ap ones (others.besides has), ones_clear_bit m v) in
            omega (arith, some, ones_empty rest none))
            v,
      )

  module _ (many : 1 < ones rest) where
    pub others_some : 0 < rest
    others_some =
        let some : (rest ≡ 0 → ⊥) = λ none. omega (arith, many, ap ones none, ones_none) in
        omega (arith, some)

    pub others_are : rest ≡ clear_bit m v
    others_are = others.besides (others.has others_some)

    pub others_wide : 2 < ones m
    others_wide = omega (arith, many, ap ones others_are, ones_clear_bit m v, others.has others_some)

    -- ---- one of them is taken out
    module _ (w : ℕ) (has_w : Has rest w) {less : ℕ} (less_is : less ≡ clear_bit rest w) where
      pub less_lacks : test_bit less v ≡ 0
      less_lacks =
          omega (
            arith,
            ap (λ (x : ℕ). test_bit x v) less_is,
            test_bit_clear_bit_le rest w v,
            ap (λ (x : ℕ). test_bit x v) others_are,
            test_bit_clear_bit_same m v,
          )

      has_both : Has m w
      has_both = omega (arith, has_w, ap (λ (x : ℕ). test_bit x w) others_are, test_bit_clear_bit_le m v w, test_bit_lt m w)

      pub less_with : less + 2 ^ v ≡ clear_bit m w
      less_with =
          omega (arith, less_is, clear_bit_has rest w has_w, others_are, clear_bit_has m v (others.has others_some), clear_bit_has m w has_both)

      pub others_less : {m' : ℕ} → m' ≡ clear_bit m w → OtherValues m' v less
      others_less is =
          rw (is ∙ sym less_with)
          (record { besides = λ _. sym (clear_bit_put less v less_lacks); has = λ _. test_bit_put_same less v less_lacks })
