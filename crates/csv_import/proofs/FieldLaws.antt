-- One turn of reading a field, on a text and a place: what csv_model's `specs/Csv.antt` says of `drop at text`, by the bytes at that place.
-- The ones that matter most: `bare_more`, `bare_mark`, `quoted_more`, `quoted_closed`, and the cases of `ended`. No contract cites this file.
-- Assumes nothing.
use mathlib.Core.Path.{◌≡◌, refl, sym, ap, subst, ◌∙◌}
use mathlib.Core.Logic.{dite}
use mathlib.Core.Bool.{Bool, true, false, not, ◌&&◌, cond}
use mathlib.Core.List.{List, [], ◌∷◌}
use Prim.Native.Nat.{ℕ, ◌+◌, ◌*◌, ◌-◌, ◌^◌, ◌≤◌, ◌<◌}
use native.Mathlib.Nat.{pow-suc}
use native.Mathlib.Numerals.{add-one}
use native.Mathlib.Decide.{ℕ_discrete, dec_lt}
use native.Mathlib.Omega.{arith}
use lib.Dec.{eqb, lit<}
use lib.ListN.{length, get_or, drop, drop_of_length-le, get_or-eq_default}
use lib.Seq.{drop-cons}
use borrow.Author.Tests.{eq-eqb, ne_eqb, lt-ltb, le-ltb, le-leb, lt-leb}
use Rattle.std.specs.Prelude.{Some, None, Result, Ok, Err}
use Rattle.answer.specs.declared.Refusal.{Refusal}
use Rattle.answer.specs.declared.Refusal.TheVariants.{Quoting}
use Rattle.csv_model.specs.declared.Figure.{Figure}
use Rattle.csv_model.specs.declared.Ending.TheVariants.{Comma, Line}
use Rattle.csv_model.specs.Rfc.{LF, CR, quote, comma, is_mark, is_digit}
use Rattle.csv_model.specs.Csv.{nothing, no_number, more, Field, field_of, broken, ended, bare, quoted, field}
use Rattle.csv_import.specs.declared.Part.{Part}
use Rattle.csv_import.specs.Part.{FigureFits, PartOf, width_of}

-- ---- the text at a place
pub drop_here : (text : List ℕ) (at : ℕ) → at < length text → drop at text ≡ get_or text at 0 ∷ drop (at + 1) text
drop_here text at inside = drop-cons text at 0 inside ∙ ap (λ (j : ℕ). get_or text at 0 ∷ drop j text) (sym (add-one at))

drop_two : (text : List ℕ) (at : ℕ) → at + 1 < length text → drop at text ≡ get_or text at 0 ∷ get_or text (at + 1) 0 ∷ drop (at + 2) text
drop_two text at inside =
    let next : at + 1 + 1 ≡ at + 2 = omega arith in
    drop_here text at (omega arith)
    ∙ ap (λ (s : List ℕ). get_or text at 0 ∷ s) (drop_here text (at + 1) inside ∙ ap (λ (j : ℕ). get_or text (at + 1) 0 ∷ drop j text) next)

pub drop_end : (text : List ℕ) (at : ℕ) → at ≡ length text → drop at text ≡ []
drop_end text at end = let past : length text ≤ at = omega arith in drop_of_length-le text past

-- ---- ended
comma_list : (f : Figure) (b : ℕ) (s : List ℕ) → eqb b comma ≡ true → ended f (b ∷ s) ≡ field_of f Comma s
unfolding ended
comma_list f b [] is = rw is
comma_list f b (d ∷ s) is = rw is

lone_list : (f : Figure) (b : ℕ) → eqb b comma ≡ false → ended f (b ∷ []) ≡ broken
unfolding ended
lone_list f b other = rw other

line_list : (f : Figure) (b d : ℕ) (s : List ℕ) → eqb b comma ≡ false → ended f (b ∷ d ∷ s) ≡ cond (eqb b CR && eqb d LF) (field_of f Line s) broken
unfolding ended
line_list f b d s other = rw other

module _ (text : List ℕ) (at : ℕ) (f : Figure) where
  pub ended_end : at ≡ length text → ended f (drop at text) ≡ field_of f Line (drop at text)
  unfolding ended
  ended_end end = rw (drop_end text at end)

  pub ended_comma : at < length text → get_or text at 0 ≡ comma → ended f (drop at text) ≡ field_of f Comma (drop (at + 1) text)
  ended_comma inside is = ap (ended f) (drop_here text at inside) ∙ comma_list f (get_or text at 0) (drop (at + 1) text) (eq-eqb _ _ is)

  -- alone at the end of the text
  pub ended_lone : at + 1 ≡ length text → (get_or text at 0 ≡ comma → ⊥) → ended f (drop at text) ≡ broken
  ended_lone last other =
      let alone = drop_here text at (omega arith) ∙ ap (λ (s : List ℕ). get_or text at 0 ∷ s) (drop_end text (at + 1) last) in
      ap (ended f) alone ∙ lone_list f (get_or text at 0) (ne_eqb _ _ other)

  -- no comma, and not alone at the end of the text
  ended_two : at + 1 < length text → (get_or text at 0 ≡ comma → ⊥)
      → ended f (drop at text) ≡ cond (eqb (get_or text at 0) CR && eqb (get_or text (at + 1) 0) LF) (field_of f Line (drop (at + 2) text)) broken
  ended_two inside other =
      ap (ended f) (drop_two text at inside) ∙ line_list f (get_or text at 0) (get_or text (at + 1) 0) (drop (at + 2) text) (ne_eqb _ _ other)

  pub ended_line : at + 1 < length text → (get_or text at 0 ≡ comma → ⊥) → get_or text at 0 ≡ CR → get_or text (at + 1) 0 ≡ LF
      → ended f (drop at text) ≡ field_of f Line (drop (at + 2) text)
  ended_line inside other cr lf = ended_two inside other ∙ rw (eq-eqb _ _ cr, eq-eqb _ _ lf)

  pub ended_no_cr : at + 1 < length text → (get_or text at 0 ≡ comma → ⊥) → (get_or text at 0 ≡ CR → ⊥) → ended f (drop at text) ≡ broken
  ended_no_cr inside other cr = ended_two inside other ∙ rw (ne_eqb _ _ cr)

  pub ended_no_lf : at + 1 < length text → (get_or text at 0 ≡ comma → ⊥) → get_or text at 0 ≡ CR → (get_or text (at + 1) 0 ≡ LF → ⊥)
      → ended f (drop at text) ≡ broken
  ended_no_lf inside other cr lf = ended_two inside other ∙ rw (eq-eqb _ _ cr, ne_eqb _ _ lf)

-- ---- bare
bare_list : (f : Figure) (b : ℕ) (s : List ℕ) → bare f (b ∷ s) ≡ cond (is_mark b) (ended f (b ∷ s)) (bare (more f b) s)
unfolding bare
bare_list f b s = refl

bare_nil : (f : Figure) → bare f [] ≡ ended f []
unfolding bare
bare_nil f = refl

module _ (text : List ℕ) (at : ℕ) (f : Figure) where
  pub bare_end : at ≡ length text → bare f (drop at text) ≡ ended f (drop at text)
  bare_end end = rw (drop_end text at end) (bare_nil f)

  pub bare_mark : at < length text → is_mark (get_or text at 0) ≡ true → bare f (drop at text) ≡ ended f (drop at text)
  bare_mark inside mark =
      ap (bare f) (drop_here text at inside) ∙ bare_list f (get_or text at 0) (drop (at + 1) text)
      ∙ ap (λ (t : Bool). cond t (ended f (get_or text at 0 ∷ drop (at + 1) text)) (bare (more f (get_or text at 0)) (drop (at + 1) text))) mark
      ∙ ap (ended f) (sym (drop_here text at inside))

  pub bare_more : at < length text → is_mark (get_or text at 0) ≡ false → bare f (drop at text) ≡ bare (more f (get_or text at 0)) (drop (at + 1) text)
  bare_more inside other =
      ap (bare f) (drop_here text at inside) ∙ bare_list f (get_or text at 0) (drop (at + 1) text)
      ∙ ap (λ (t : Bool). cond t (ended f (get_or text at 0 ∷ drop (at + 1) text)) (bare (more f (get_or text at 0)) (drop (at + 1) text))) other

-- ---- quoted
open_list : (f : Figure) (b : ℕ) (s : List ℕ) → quoted true f (b ∷ s) ≡ quoted (not (eqb b quote)) (cond (eqb b quote) f (more f b)) s
unfolding quoted
open_list f b s = refl

open_nil : (f : Figure) → quoted true f [] ≡ broken
unfolding quoted
open_nil f = refl

shut_nil : (f : Figure) → quoted false f [] ≡ ended f []
unfolding quoted
shut_nil f = refl

shut_list : (f : Figure) (b : ℕ) (s : List ℕ) → quoted false f (b ∷ s) ≡ cond (eqb b quote) (quoted true (more f quote) s) (ended f (b ∷ s))
unfolding quoted
shut_list f b s = refl

module _ (text : List ℕ) (at : ℕ) (f : Figure) where
  pub quoted_end : at ≡ length text → quoted true f (drop at text) ≡ broken
  quoted_end end = rw (drop_end text at end) (open_nil f)

  plain : at < length text → (get_or text at 0 ≡ quote → ⊥) → quoted true f (drop at text) ≡ quoted true (more f (get_or text at 0)) (drop (at + 1) text)
  plain inside other =
      ap (quoted true f) (drop_here text at inside) ∙ open_list f (get_or text at 0) (drop (at + 1) text)
      ∙ ap (λ (t : Bool). quoted (not t) (cond t f (more f (get_or text at 0))) (drop (at + 1) text)) (ne_eqb _ _ other)

  at_quote : at < length text → get_or text at 0 ≡ quote → quoted true f (drop at text) ≡ quoted false f (drop (at + 1) text)
  at_quote inside is =
      ap (quoted true f) (drop_here text at inside) ∙ open_list f (get_or text at 0) (drop (at + 1) text)
      ∙ ap (λ (t : Bool). quoted (not t) (cond t f (more f (get_or text at 0))) (drop (at + 1) text)) (eq-eqb _ _ is)

  shut_end : at ≡ length text → quoted false f (drop at text) ≡ ended f (drop at text)
  shut_end end = rw (drop_end text at end) (shut_nil f)

  shut_other : at < length text → (get_or text at 0 ≡ quote → ⊥) → quoted false f (drop at text) ≡ ended f (drop at text)
  shut_other inside other =
      ap (quoted false f) (drop_here text at inside) ∙ shut_list f (get_or text at 0) (drop (at + 1) text)
      ∙ ap (λ (t : Bool). cond t (quoted true (more f quote) (drop (at + 1) text)) (ended f (get_or text at 0 ∷ drop (at + 1) text))) (ne_eqb _ _ other)
      ∙ ap (ended f) (sym (drop_here text at inside))

  shut_quote : at < length text → get_or text at 0 ≡ quote → quoted false f (drop at text) ≡ quoted true (more f quote) (drop (at + 1) text)
  shut_quote inside is =
      ap (quoted false f) (drop_here text at inside) ∙ shut_list f (get_or text at 0) (drop (at + 1) text)
      ∙ ap (λ (t : Bool). cond t (quoted true (more f quote) (drop (at + 1) text)) (ended f (get_or text at 0 ∷ drop (at + 1) text))) (eq-eqb _ _ is)

width_plain : (text : List ℕ) (at : ℕ) → (get_or text at 0 ≡ quote → ⊥) → width_of text at ≡ Some 1
width_plain text at other = rw (ne_eqb (get_or text at 0) quote other)

width_double : (text : List ℕ) (at : ℕ) → get_or text at 0 ≡ quote → get_or text (at + 1) 0 ≡ quote → width_of text at ≡ Some 2
width_double text at is next = rw (eq-eqb (get_or text at 0) quote is, eq-eqb (get_or text (at + 1) 0) quote next)

width_closing : (text : List ℕ) (at : ℕ) → get_or text at 0 ≡ quote → (get_or text (at + 1) 0 ≡ quote → ⊥) → width_of text at ≡ None
width_closing text at is next = rw (eq-eqb (get_or text at 0) quote is, ne_eqb (get_or text (at + 1) 0) quote next)

-- a quote stands inside the text
quote_inside : (text : List ℕ) (at : ℕ) → get_or text at 0 ≡ quote → at < length text
quote_inside text at is =
    dite (dec_lt at (length text)) (λ inside. inside)
    (λ outside. let past : length text ≤ at = omega arith in let none = get_or-eq_default text 0 past in absurd (omega arith))

module _ (text : List ℕ) {at w : ℕ} (inside : at < length text) (is : Some w ≡ width_of text at) where
  width_one : (get_or text at 0 ≡ quote → ⊥) → w ≡ 1
  width_one q = let e : Some w ≡ Some 1 = is ∙ width_plain text at q in cc

  width_two : get_or text at 0 ≡ quote → get_or text (at + 1) 0 ≡ quote → w ≡ 2
  width_two q next = let e : Some w ≡ Some 2 = is ∙ width_double text at q next in cc

  width_some : {A : Type 0} → get_or text at 0 ≡ quote → (get_or text (at + 1) 0 ≡ quote → ⊥) → A
  width_some q next = let e : Some w ≡ None = is ∙ width_closing text at q next in absurd (cc)

  pub width_inside : at + w ≤ length text
  width_inside =
      dite (ℕ_discrete (get_or text at 0) quote)
      (λ q.
      dite (ℕ_discrete (get_or text (at + 1) 0) quote)
      (λ next. let more = quote_inside text (at + 1) next in omega (arith, width_two q next))
      (λ next. width_some q next))
      (λ q. omega (arith, width_one q))

  -- a byte that is read takes one byte or two
  pub width_further : at < at + w
  width_further =
      dite (ℕ_discrete (get_or text at 0) quote)
      (λ q. dite (ℕ_discrete (get_or text (at + 1) 0) quote) (λ next. omega (arith, width_two q next)) (λ next. width_some q next))
      (λ q. omega (arith, width_one q))

  pub quoted_more : (f : Figure) → quoted true f (drop at text) ≡ quoted true (more f (get_or text at 0)) (drop (at + w) text)
  quoted_more f =
      dite (ℕ_discrete (get_or text at 0) quote)
      (λ q.
      dite (ℕ_discrete (get_or text (at + 1) 0) quote)
      (λ next.
      let two : at + 1 + 1 ≡ at + w = omega (arith, width_two q next) in
      at_quote text at f inside q ∙ shut_quote text (at + 1) f (quote_inside text (at + 1) next) next
      ∙ ap (λ (j : ℕ). quoted true (more f quote) (drop j text)) two ∙ ap (λ (b : ℕ). quoted true (more f b) (drop (at + w) text)) (sym q))
      (λ next. width_some q next))
      (λ q.
      let one : at + 1 ≡ at + w = omega (arith, width_one q) in
      plain text at f inside q ∙ ap (λ (j : ℕ). quoted true (more f (get_or text at 0)) (drop j text)) one)

pub quoted_closed : (text : List ℕ) {at : ℕ} → at < length text → None ≡ width_of text at → (f : Figure)
    → quoted true f (drop at text) ≡ ended f (drop (at + 1) text)
quoted_closed text {at} inside is f =
    dite (ℕ_discrete (get_or text at 0) quote)
    (λ q.
    dite (ℕ_discrete (get_or text (at + 1) 0) quote)
    (λ next. let e : None ≡ Some 2 = is ∙ width_double text at q next in absurd (cc))
    (λ next.
    at_quote text at f inside q
    ∙ dite (ℕ_discrete (at + 1) (length text)) (λ last. shut_end text (at + 1) f last) (λ before. shut_other text (at + 1) f (omega arith) next)))
    (λ q. let e : None ≡ Some 1 = is ∙ width_plain text at q in absurd (cc))

-- ---- field
quote_list : (b : ℕ) (s : List ℕ) → field (b ∷ s) ≡ cond (eqb b quote) (quoted true nothing s) (bare nothing (b ∷ s))
unfolding field
quote_list b s = refl

field_nil : field [] ≡ bare nothing []
unfolding field
field_nil = refl

module _ (text : List ℕ) (at : ℕ) where
  pub field_end : at ≡ length text → field (drop at text) ≡ bare nothing (drop at text)
  field_end end = rw (drop_end text at end) field_nil

  pub field_quote : at < length text → get_or text at 0 ≡ quote → field (drop at text) ≡ quoted true nothing (drop (at + 1) text)
  field_quote inside is =
      ap field (drop_here text at inside) ∙ quote_list (get_or text at 0) (drop (at + 1) text)
      ∙ ap (λ (t : Bool). cond t (quoted true nothing (drop (at + 1) text)) (bare nothing (get_or text at 0 ∷ drop (at + 1) text))) (eq-eqb _ _ is)

  pub field_bare : at < length text → (get_or text at 0 ≡ quote → ⊥) → field (drop at text) ≡ bare nothing (drop at text)
  field_bare inside other =
      ap field (drop_here text at inside) ∙ quote_list (get_or text at 0) (drop (at + 1) text)
      ∙ ap (λ (t : Bool). cond t (quoted true nothing (drop (at + 1) text)) (bare nothing (get_or text at 0 ∷ drop (at + 1) text))) (ne_eqb _ _ other)
      ∙ ap (bare nothing) (sym (drop_here text at inside))

-- ---- figures
pub fits_more : {f g : Figure} (x : ℕ) → FigureFits f → x ≤ 9 → g.count ≡ f.count + 1 → g.value ≡ 10 * f.value + x → FigureFits g
fits_more {f = f} {g = g} x fits digit count value =
    let power : 10 ^ g.count ≡ 10 ^ f.count * 10 = ap (λ (j : ℕ). 10 ^ j) (count ∙ add-one f.count) ∙ pow-suc 10 f.count in
    let below = fits.below in
    record { below = omega arith }

-- ---- PartOf
pub found_made : {d : Field} {text : List ℕ} {f : Figure} (last : Bool) {next : ℕ} → d ≡ field_of f (cond last Line Comma) (drop next text)
    → next ≤ length text → PartOf d text (Ok (record { figure = f; last = last; next = next }))
found_made last is inside =
    record {
      figure = sym (ap (λ (x : Field). x.figure) is);
      ending = ap (λ (x : Field). x.ending) is;
      rest = sym (ap (λ (x : Field). x.rest) is);
      inside = inside;
    }

pub found_broken : {d : Field} (text : List ℕ) → d ≡ broken → PartOf d text (Err Quoting)
found_broken text is = (refl, ap (λ (x : Field). x.ending) is)

pub found_same : {d d' : Field} (text : List ℕ) (r : Result Part Refusal) → d ≡ d' → PartOf d' text r → PartOf d text r
found_same text r is found = subst (λ (x : Field). PartOf x text r) (sym is) found

-- ---- more
pub more_digit : (f : Figure) (b : ℕ) → 48 ≤ b → b ≤ 57 → f.count < 5 → record { count = f.count + 1; value = 10 * f.value + (b - 48) } ≡ more f b
unfolding more
more_digit f b low high few = rw (le-leb 48 b low, le-leb b 57 high, lt-ltb f.count 5 few)

pub more_many : (f : Figure) (b : ℕ) → 5 ≤ f.count → no_number ≡ more f b
unfolding more
more_many f b many = aux (is_digit b) (le-ltb f.count 5 many)
  where
    aux : (t : Bool) {u : Bool} → u ≡ false → no_number ≡ cond (t && u) (record { count = f.count + 1; value = 10 * f.value + (b - 48) }) no_number
    aux true none = rw none
    aux false none = refl

pub more_high : (f : Figure) (b : ℕ) → 57 < b → no_number ≡ more f b
unfolding more
more_high f b high = rw (le-leb 48 b (omega arith), lt-leb b 57 high)

pub more_low : (f : Figure) (b : ℕ) → b < 48 → no_number ≡ more f b
unfolding more
more_low f b low = rw (lt-leb 48 b low)

pub fits_none : FigureFits no_number
fits_none = record { below = lit< tt }

-- ---- the loops
-- what is read from `at` with figure f is what was to be read from `from`; inside quotes, and bare
pub record Going (read : Figure → List ℕ → Field) (text : List ℕ) (from at : ℕ) (f : Figure) : Type 0 where
  pub inside : at ≤ length text
  pub fits : FigureFits f
  pub same : read nothing (drop from text) ≡ read f (drop at text)

module _ {read : Figure → List ℕ → Field} {text : List ℕ} {from : ℕ} where
  pub going_more : {at to : ℕ} {f g g' : Figure} → Going read text from at f → to ≤ length text → FigureFits g
      → read f (drop at text) ≡ read g' (drop to text) → g ≡ g' → Going read text from to g
  going_more {to = to} going inside fits turn is =
      record { inside = inside; fits = fits; same = going.same ∙ turn ∙ ap (λ (x : Figure). read x (drop to text)) (sym is) }
