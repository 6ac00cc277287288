-- The laws of `specs/Csv.antt`, in its order. No contract cites this file. The ones that matter most: `record_comma`, `record_line`, `record_broken`
-- (a record is its first field, then the record behind the comma), `records_first`, `later_some` (the first record, then those of the text behind it),
-- `field_shorter` (behind a comma stands less text), `record_shorter`.
-- Assumes nothing.
use mathlib.Core.Path.{◌≡◌, refl, sym, ap, ◌∙◌}
use mathlib.Core.Logic.{◌⊎◌, inl, inr, ⊎_elim, dite}
use mathlib.Core.Bool.{Bool, true, false, not, ◌&&◌, cond}
use mathlib.Core.List.{List, [], ◌∷◌}
use Prim.Native.Nat.{ℕ, zero, suc, ◌≤◌, ◌<◌}
use native.Mathlib.Omega.{arith}
use native.Mathlib.Decide.{dec_lt}
use lib.Dec.{eqb}
use lib.ListN.{length}
use borrow.Author.Tests.{eq-eqb, ne_eqb}
use Rattle.csv_model.specs.declared.Figure.{Figure}
use Rattle.csv_model.specs.declared.Ending.{Ending}
use Rattle.csv_model.specs.declared.Ending.TheVariants.{Comma, Line, Broken}
use Rattle.csv_model.specs.Rfc.{LF, CR, quote, comma, is_mark}
use Rattle.csv_model.specs.Csv.{nothing, more, Field, broken, ended, bare, quoted, field, Record, before, record_within, record_of, records_within}
use Rattle.csv_model.specs.Csv.{records, later}

-- ---- the text behind a field is shorter
-- behind a comma it is, and where any is left
pub record Shorter (d : Field) (s : List ℕ) : Type 0 where
  pub comma : d.ending ≡ Comma → length d.rest < length s
  pub left : 0 < length d.rest → length d.rest < length s

-- a text with more in front
shorter_more : (d : Field) (s t : List ℕ) → length s ≤ length t → Shorter d s → Shorter d t
shorter_more d s t s≤t shorter =
    record { comma = λ e. let h = shorter.comma e in omega arith; left = λ some. let h = shorter.left some in omega arith }

shorter_broken : (s : List ℕ) → Shorter broken s
shorter_broken s = record { comma = λ e. absurd (let z : ◌≡◌ {A = ℕ} 0 1 = cc in omega arith); left = λ some. absurd (omega arith) }

shorter_cond : (t : Bool) (d e : Field) (s : List ℕ) → Shorter d s → Shorter e s → Shorter (cond t d e) s
shorter_cond true d e s first second = first
shorter_cond false d e s first second = second

shorter_some : (d : Field) (s : List ℕ) → length d.rest < length s → Shorter d s
shorter_some d s less = record { comma = λ e. less; left = λ some. less }

ended_shorter : (f : Figure) (s : List ℕ) → Shorter (ended f s) s
unfolding ended
ended_shorter f [] = record { comma = λ e. absurd (let z : ◌≡◌ {A = ℕ} 0 1 = cc in omega arith); left = λ some. absurd (omega arith) }
ended_shorter f (b ∷ []) = shorter_cond (eqb b comma) _ _ _ (shorter_some _ _ (omega arith)) (shorter_broken _)
ended_shorter f (b ∷ d ∷ s) =
    shorter_cond (eqb b comma) _ _ _ (shorter_some _ _ (omega arith))
    (shorter_cond (eqb b CR && eqb d LF) _ _ _ (shorter_some _ _ (omega arith)) (shorter_broken _))

bare_shorter : (f : Figure) (s : List ℕ) → Shorter (bare f s) s
unfolding bare
bare_shorter f [] = ended_shorter f []
bare_shorter f (b ∷ s) =
    shorter_cond (is_mark b) _ _ _ (ended_shorter f (b ∷ s)) (shorter_more _ s (b ∷ s) (omega arith) (bare_shorter (more f b) s))

quoted_shorter : (inside : Bool) (f : Figure) (s : List ℕ) → Shorter (quoted inside f s) s
unfolding quoted
quoted_shorter true f [] = shorter_broken []
quoted_shorter false f [] = ended_shorter f []
quoted_shorter true f (b ∷ s) = shorter_more _ s (b ∷ s) (omega arith) (quoted_shorter (not (eqb b quote)) (cond (eqb b quote) f (more f b)) s)
quoted_shorter false f (b ∷ s) =
    shorter_cond (eqb b quote) _ _ _ (shorter_more _ s (b ∷ s) (omega arith) (quoted_shorter true (more f quote) s)) (ended_shorter f (b ∷ s))

pub field_shorter : (s : List ℕ) → Shorter (field s) s
unfolding field
field_shorter [] = bare_shorter nothing []
field_shorter (b ∷ s) =
    shorter_cond (eqb b quote) _ _ _ (shorter_more _ s (b ∷ s) (omega arith) (quoted_shorter true nothing s)) (bare_shorter nothing (b ∷ s))

-- ---- record_of
-- what a record is, by how its first field ends
abbrev by_ending : ℕ → List ℕ → Ending → Record
by_ending most s e =
    elim e [
      | Comma ↦ before (field s).figure (record_within most (field s).rest)
      | Line ↦ record { fields = (field s).figure ∷ []; whole = true; rest = (field s).rest }
      | Broken ↦ record { fields = []; whole = false; rest = (field s).rest }
    ]

step_comma : (most : ℕ) (s : List ℕ) → (field s).ending ≡ Comma → record_within (suc most) s ≡ before (field s).figure (record_within most (field s).rest)
unfolding record_within
step_comma most s ends = ap (by_ending most s) ends

step_line : (most : ℕ) (s : List ℕ) → (field s).ending ≡ Line
    → record_within (suc most) s ≡ record { fields = (field s).figure ∷ []; whole = true; rest = (field s).rest }
unfolding record_within
step_line most s ends = ap (by_ending most s) ends

step_broken : (most : ℕ) (s : List ℕ) → (field s).ending ≡ Broken → record_within (suc most) s ≡ record { fields = []; whole = false; rest = (field s).rest }
unfolding record_within
step_broken most s ends = ap (by_ending most s) ends

pub ending_cases : (e : Ending) → (e ≡ Comma) ⊎ ((e ≡ Line) ⊎ (e ≡ Broken))
ending_cases Comma = inl refl
ending_cases Line = inr (inl refl)
ending_cases Broken = inr (inr refl)

-- any count above the length is enough
record_enough : (x y : ℕ) (s : List ℕ) → length s < x → length s < y → record_within x s ≡ record_within y s
record_enough zero y s x_long y_long = absurd (omega arith)
record_enough (suc x) zero s x_long y_long = absurd (omega arith)
record_enough (suc x) (suc y) s x_long y_long =
    ⊎_elim
    (λ ends.
    let less = (field_shorter s).comma ends in
    step_comma x s ends ∙ ap (before (field s).figure) (record_enough x y (field s).rest (omega arith) (omega arith)) ∙ sym (step_comma y s ends))
    (⊎_elim (λ ends. step_line x s ends ∙ sym (step_line y s ends)) (λ ends. step_broken x s ends ∙ sym (step_broken y s ends)))
    (ending_cases (field s).ending)

pub record_comma : (s : List ℕ) → (field s).ending ≡ Comma → record_of s ≡ before (field s).figure (record_of (field s).rest)
unfolding record_of
record_comma s ends =
    let less = (field_shorter s).comma ends in
    step_comma (length s) s ends
    ∙ ap (before (field s).figure) (record_enough (length s) (suc (length (field s).rest)) (field s).rest (omega arith) (omega arith))

pub record_line : (s : List ℕ) → (field s).ending ≡ Line → record_of s ≡ record { fields = (field s).figure ∷ []; whole = true; rest = (field s).rest }
unfolding record_of
record_line s ends = step_line (length s) s ends

pub record_broken : (s : List ℕ) → (field s).ending ≡ Broken → record_of s ≡ record { fields = []; whole = false; rest = (field s).rest }
unfolding record_of
record_broken s ends = step_broken (length s) s ends

within_shorter : (most : ℕ) (s : List ℕ) → 0 < length (record_within most s).rest → length (record_within most s).rest < length s
unfolding record_within
within_shorter zero s some = absurd (omega arith)
within_shorter (suc most) s some =
    ⊎_elim
    (λ ends.
    let less = (field_shorter s).comma ends in
    let whole = ap (λ (r : Record). length r.rest) (step_comma most s ends) in
    let behind = within_shorter most (field s).rest (omega arith) in
    omega arith)
    (⊎_elim
    (λ ends.
    let whole = ap (λ (r : Record). length r.rest) (step_line most s ends) in
    let less = (field_shorter s).left (omega arith) in
    omega arith)
    (λ ends.
    let whole = ap (λ (r : Record). length r.rest) (step_broken most s ends) in
    let less = (field_shorter s).left (omega arith) in
    omega arith))
    (ending_cases (field s).ending)

-- where text is left behind a record, it is shorter
pub record_shorter : (s : List ℕ) → 0 < length (record_of s).rest → length (record_of s).rest < length s
unfolding record_of
record_shorter s some = within_shorter (suc (length s)) s some

-- ---- records
all_last : (most : ℕ) (s : List ℕ) → length (record_of s).rest ≡ 0 → records_within (suc most) s ≡ record_of s ∷ []
unfolding records_within
all_last most s none = rw (eq-eqb (length (record_of s).rest) 0 none) refl

all_more : (most : ℕ) (s : List ℕ) → 0 < length (record_of s).rest → records_within (suc most) s ≡ record_of s ∷ records_within most (record_of s).rest
unfolding records_within
all_more most s some = rw (ne_eqb (length (record_of s).rest) 0 (λ e. omega arith)) refl

records_enough : (x y : ℕ) (s : List ℕ) → length s < x → length s < y → records_within x s ≡ records_within y s
records_enough zero y s x_long y_long = absurd (omega arith)
records_enough (suc x) zero s x_long y_long = absurd (omega arith)
records_enough (suc x) (suc y) s x_long y_long =
    dite (dec_lt 0 (length (record_of s).rest))
    (λ some.
    let less = record_shorter s some in
    all_more x s some ∙ ap (λ (rs : List Record). record_of s ∷ rs) (records_enough x y (record_of s).rest (omega arith) (omega arith))
    ∙ sym (all_more y s some))
    (λ none. all_last x s (omega arith) ∙ sym (all_last y s (omega arith)))

pub records_last : (s : List ℕ) → length (record_of s).rest ≡ 0 → records s ≡ record_of s ∷ []
unfolding records
records_last s none = all_last (length s) s none

pub records_more : (s : List ℕ) → 0 < length (record_of s).rest → records s ≡ record_of s ∷ records (record_of s).rest
unfolding records
records_more s some =
    let less = record_shorter s some in
    all_more (length s) s some
    ∙ ap (λ (rs : List Record). record_of s ∷ rs) (records_enough (length s) (suc (length (record_of s).rest)) (record_of s).rest (omega arith) (omega arith))

-- ---- later
pub later_none : (s : List ℕ) → length s ≡ 0 → later s ≡ []
unfolding later
later_none s none = rw (eq-eqb (length s) 0 none)

later_all : (s : List ℕ) → 0 < length s → later s ≡ records s
unfolding later
later_all s some = rw (ne_eqb (length s) 0 (λ e. omega arith))

-- the first record, then those behind it
pub records_first : (s : List ℕ) → records s ≡ record_of s ∷ later (record_of s).rest
records_first s =
    dite (dec_lt 0 (length (record_of s).rest))
    (λ some. records_more s some ∙ ap (λ (rs : List Record). record_of s ∷ rs) (sym (later_all (record_of s).rest some)))
    (λ none.
    let empty : length (record_of s).rest ≡ 0 = omega arith in
    records_last s empty ∙ ap (λ (rs : List Record). record_of s ∷ rs) (sym (later_none (record_of s).rest empty)))

pub later_some : (s : List ℕ) → 0 < length s → later s ≡ record_of s ∷ later (record_of s).rest
later_some s some = later_all s some ∙ records_first s
