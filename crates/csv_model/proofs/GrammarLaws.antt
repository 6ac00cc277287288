-- The reader of `specs/Csv.antt` against the grammar of `specs/Rfc.antt`, both ways: `field_grammar`, `record_grammar` (what is read and not broken is a
-- field, or a record, of the grammar), `field_read`, `record_read` (each field and record of the grammar is read, to its figures), and
-- `record_unreadable` (a record is broken exactly where the grammar has none). No contract cites this file. Assumes nothing.
use mathlib.Core.Path.{◌≡◌, refl, sym, ap, subst, ◌∙◌}
use mathlib.Core.Logic.{◌⊎◌, inl, inr, ⊎_elim}
use mathlib.Core.Bool.{Bool, true, false, not, ◌&&◌, ◌||◌, cond}
use mathlib.Core.List.{List, [], ◌∷◌, ◌++◌}
use Prim.Native.Nat.{ℕ, zero, suc, ◌<◌}
use native.Mathlib.Omega.{arith}
use lib.Dec.{eqb}
use lib.ListN.{length}
use borrow.Author.Tests.{eqb-true}
use Rattle.book.proofs.RefusalLaws.{none_of_or, both_of_and}
use Rattle.csv_model.specs.declared.Figure.{Figure}
use Rattle.csv_model.specs.declared.Ending.{Ending}
use Rattle.csv_model.specs.declared.Ending.TheVariants.{Comma, Line, Broken}
use Rattle.csv_model.specs.Rfc.{LF, CR, quote, comma, is_mark, doubled, Plain, Behind, Bare, Quoted, FieldAt, RecordAt, ends, continues, Unreadable}
use Rattle.csv_model.specs.Csv.{nothing, more, figure_from, figure_of, figures, Field, field_of, broken, ended, bare, quoted, field, Record, before}
use Rattle.csv_model.specs.Csv.{record_of}
use Rattle.csv_model.proofs.CsvLaws.{field_shorter, record_comma, record_line, record_broken, ending_cases}

-- a Bool with the equation that it is true, or false
pub bool_cases : (t : Bool) → (t ≡ true) ⊎ (t ≡ false)
bool_cases true = inl refl
bool_cases false = inr refl

-- what is read is broken, or else has the property
module _ (P : Field → Type 0) where
  broken_or : (t : Bool) (d e : Field) → (t ≡ true → (d.ending ≡ Broken) ⊎ P d) → (t ≡ false → (e.ending ≡ Broken) ⊎ P e)
      → ((cond t d e).ending ≡ Broken) ⊎ P (cond t d e)
  broken_or true d e here other = here refl
  broken_or false d e here other = other refl

-- ---- ended
-- the text s behind a content with figure f
pub record Stops (f : Figure) (s : List ℕ) (d : Field) : Type 0 where
  pub figure : d.figure ≡ f
  pub after : Behind s d.ending d.rest

ended_grammar : (f : Figure) (s : List ℕ) → ((ended f s).ending ≡ Broken) ⊎ Stops f s (ended f s)
unfolding ended
ended_grammar f [] = inr (record { figure = refl; after = inl (refl, refl, refl) })
ended_grammar f (b ∷ []) =
    broken_or (Stops f (b ∷ [])) (eqb b comma) (field_of f Comma []) broken
    (λ is. inr (record { figure = refl; after = inr (inl (ap (λ (x : ℕ). x ∷ []) (eqb-true b comma is), refl)) }))
    (λ is. inl refl)
ended_grammar f (b ∷ d ∷ s) =
    broken_or (Stops f (b ∷ d ∷ s)) (eqb b comma) (field_of f Comma (d ∷ s)) (cond (eqb b CR && eqb d LF) (field_of f Line s) broken)
    (λ is. inr (record { figure = refl; after = inr (inl (ap (λ (x : ℕ). x ∷ d ∷ s) (eqb-true b comma is), refl)) }))
    (λ is.
    broken_or (Stops f (b ∷ d ∷ s)) (eqb b CR && eqb d LF) (field_of f Line s) broken
    (λ line.
    let both = both_of_and (eqb b CR) (eqb d LF) line in
    inr (record {
      figure = refl;
      after = inr (inr (ap (λ (x : ℕ). x ∷ d ∷ s) (eqb-true b CR both.0) ∙ ap (λ (x : ℕ). CR ∷ x ∷ s) (eqb-true d LF both.1), refl));
    }))
    (λ other. inl refl))

-- ---- bare
pub record BareRead (f : Figure) (s : List ℕ) (d : Field) : Type 0 where
  pub content : List ℕ
  pub behind : List ℕ
  pub form : Bare s content behind
  pub figure : d.figure ≡ figure_from f content
  pub after : Behind behind d.ending d.rest

bare_stops : (f : Figure) (s : List ℕ) (d : Field) → Stops f s d → BareRead f s d
unfolding figure_from
bare_stops f s d stops = record { content = []; behind = s; form = record { text = refl; plain = tt }; figure = stops.figure; after = stops.after }

bare_longer : (f : Figure) (b : ℕ) (s : List ℕ) (d : Field) → is_mark b ≡ false → BareRead (more f b) s d → BareRead f (b ∷ s) d
unfolding figure_from
bare_longer f b s d plain read =
    record {
      content = b ∷ read.content;
      behind = read.behind;
      form = record { text = ap (λ (l : List ℕ). b ∷ l) read.form.text; plain = (plain, read.form.plain) };
      figure = read.figure;
      after = read.after;
    }

bare_grammar : (f : Figure) (s : List ℕ) → ((bare f s).ending ≡ Broken) ⊎ BareRead f s (bare f s)
unfolding bare
bare_grammar f [] = ⊎_elim (λ bad. inl bad) (λ stops. inr (bare_stops f [] (ended f []) stops)) (ended_grammar f [])
bare_grammar f (b ∷ s) =
    broken_or (BareRead f (b ∷ s)) (is_mark b) (ended f (b ∷ s)) (bare (more f b) s)
    (λ mark. ⊎_elim (λ bad. inl bad) (λ stops. inr (bare_stops f (b ∷ s) (ended f (b ∷ s)) stops)) (ended_grammar f (b ∷ s)))
    (λ plain. ⊎_elim (λ bad. inl bad) (λ read. inr (bare_longer f b s (bare (more f b) s) plain read)) (bare_grammar (more f b) s))

-- ---- quoted
-- text: what stands from a place inside the quotes, or from the quote just passed
pub record QuotedRead (f : Figure) (text : List ℕ) (d : Field) : Type 0 where
  pub content : List ℕ
  pub behind : List ℕ
  pub form : text ≡ doubled content ++ quote ∷ behind
  pub figure : d.figure ≡ figure_from f content
  pub after : Behind behind d.ending d.rest

quoted_stops : (f : Figure) (s : List ℕ) (d : Field) → Stops f s d → QuotedRead f (quote ∷ s) d
unfolding figure_from doubled
quoted_stops f s d stops = record { content = []; behind = s; form = refl; figure = stops.figure; after = stops.after }

quoted_plain : (f : Figure) (b : ℕ) (s : List ℕ) (d : Field) → eqb b quote ≡ false → QuotedRead (more f b) s d → QuotedRead f (b ∷ s) d
unfolding figure_from doubled
quoted_plain f b s d plain read =
    record {
      content = b ∷ read.content;
      behind = read.behind;
      form =
          ap (λ (l : List ℕ). b ∷ l) read.form
          ∙ sym (ap (λ (t : Bool). cond t (quote ∷ quote ∷ doubled read.content) (b ∷ doubled read.content) ++ quote ∷ read.behind) plain);
      figure = read.figure;
      after = read.after;
    }

quoted_double : (f : Figure) (s : List ℕ) (d : Field) → QuotedRead (more f quote) s d → QuotedRead f (quote ∷ quote ∷ s) d
unfolding figure_from doubled
quoted_double f s d read =
    record {
      content = quote ∷ read.content;
      behind = read.behind;
      form = ap (λ (l : List ℕ). quote ∷ quote ∷ l) read.form;
      figure = read.figure;
      after = read.after;
    }

quoted_text : (f : Figure) (s s' : List ℕ) (d : Field) → s' ≡ s → QuotedRead f s d → QuotedRead f s' d
quoted_text f s s' d same read =
    record { content = read.content; behind = read.behind; form = same ∙ read.form; figure = read.figure; after = read.after }

-- inside the quotes the text is s; behind a quote it is that quote, then s
abbrev text_of : Bool → List ℕ → List ℕ
text_of true s = s
text_of false s = quote ∷ s

inside_byte : (f : Figure) (b : ℕ) (s : List ℕ) → (((quoted true (more f b) s).ending ≡ Broken) ⊎ QuotedRead (more f b) s (quoted true (more f b) s))
    → (((quoted false f s).ending ≡ Broken) ⊎ QuotedRead f (quote ∷ s) (quoted false f s)) → (t : Bool) → eqb b quote ≡ t
    → ((quoted (not t) (cond t f (more f b)) s).ending ≡ Broken) ⊎ QuotedRead f (b ∷ s) (quoted (not t) (cond t f (more f b)) s)
inside_byte f b s within behind true is =
    ⊎_elim (λ bad. inl bad) (λ read. inr (quoted_text f (quote ∷ s) (b ∷ s) (quoted false f s) (ap (λ (x : ℕ). x ∷ s) (eqb-true b quote is)) read)) behind
inside_byte f b s within behind false is = ⊎_elim (λ bad. inl bad) (λ read. inr (quoted_plain f b s (quoted true (more f b) s) is read)) within

quoted_grammar : (inside : Bool) (f : Figure) (s : List ℕ) → ((quoted inside f s).ending ≡ Broken) ⊎ QuotedRead f (text_of inside s) (quoted inside f s)
unfolding quoted
quoted_grammar true f [] = inl refl
quoted_grammar false f [] = ⊎_elim (λ bad. inl bad) (λ stops. inr (quoted_stops f [] (ended f []) stops)) (ended_grammar f [])
quoted_grammar true f (b ∷ s) = inside_byte f b s (quoted_grammar true (more f b) s) (quoted_grammar false f s) (eqb b quote) refl
quoted_grammar false f (b ∷ s) =
    broken_or (QuotedRead f (quote ∷ b ∷ s)) (eqb b quote) (quoted true (more f quote) s) (ended f (b ∷ s))
    (λ is.
    ⊎_elim (λ bad. inl bad)
    (λ read.
    inr (quoted_text f (quote ∷ quote ∷ s) (quote ∷ b ∷ s) (quoted true (more f quote) s) (ap (λ (x : ℕ). quote ∷ x ∷ s) (eqb-true b quote is))
    (quoted_double f s (quoted true (more f quote) s) read)))
    (quoted_grammar true (more f quote) s))
    (λ other. ⊎_elim (λ bad. inl bad) (λ stops. inr (quoted_stops f (b ∷ s) (ended f (b ∷ s)) stops)) (ended_grammar f (b ∷ s)))

-- ---- field
-- s begins with a field of the grammar whose content has the figure f
pub record FieldRead (s : List ℕ) (f : Figure) (e : Ending) (r : List ℕ) : Type 0 where
  pub content : List ℕ
  pub at : FieldAt s content e r
  pub figure : f ≡ figure_of content

Grammar : List ℕ → Field → Type 0
Grammar s d = FieldRead s d.figure d.ending d.rest

of_bare : (s : List ℕ) (d : Field) → BareRead nothing s d → Grammar s d
unfolding Grammar
of_bare s d read =
    record { content = read.content; at = record { behind = read.behind; form = inl read.form; after = read.after }; figure = read.figure }

of_quoted : (b : ℕ) (s : List ℕ) (d : Field) → b ≡ quote → QuotedRead nothing s d → Grammar (b ∷ s) d
unfolding Grammar
of_quoted b s d is read =
    record {
      content = read.content;
      at =
          record {
            behind = read.behind;
            form = inr (record { text = ap (λ (x : ℕ). x ∷ s) is ∙ ap (λ (l : List ℕ). quote ∷ l) read.form });
            after = read.after;
          };
      figure = read.figure;
    }

field_cases : (s : List ℕ) → ((field s).ending ≡ Broken) ⊎ Grammar s (field s)
unfolding field
field_cases [] = ⊎_elim (λ bad. inl bad) (λ read. inr (of_bare [] (bare nothing []) read)) (bare_grammar nothing [])
field_cases (b ∷ s) =
    broken_or (Grammar (b ∷ s)) (eqb b quote) (quoted true nothing s) (bare nothing (b ∷ s))
    (λ is. ⊎_elim (λ bad. inl bad) (λ read. inr (of_quoted b s (quoted true nothing s) (eqb-true b quote is) read)) (quoted_grammar true nothing s))
    (λ other. ⊎_elim (λ bad. inl bad) (λ read. inr (of_bare (b ∷ s) (bare nothing (b ∷ s)) read)) (bare_grammar nothing (b ∷ s)))

-- a field that is not broken is one of the grammar
pub field_grammar : (s : List ℕ) → ((field s).ending ≡ Broken → ⊥) → FieldRead s (field s).figure (field s).ending (field s).rest
unfolding Grammar
field_grammar s whole = ⊎_elim (λ bad. absurd (whole bad)) (λ of. of) (field_cases s)

-- ---- each field of the grammar is read
ended_behind : (f : Figure) (t : List ℕ) (e : Ending) (r : List ℕ) → Behind t e r → ended f t ≡ field_of f e r
unfolding ended
ended_behind f t e r =
    ⊎_elim (λ end. ap (ended f) end.0 ∙ ap (λ (x : Ending). field_of f x []) (sym end.1) ∙ ap (field_of f e) (sym end.2))
    (⊎_elim (λ at. ap (ended f) at.0 ∙ at_comma r ∙ ap (λ (x : Ending). field_of f x r) (sym at.1))
    (λ at. ap (ended f) at.0 ∙ ap (λ (x : Ending). field_of f x r) (sym at.1)))
  where
    at_comma : (r : List ℕ) → ended f (comma ∷ r) ≡ field_of f Comma r
    at_comma [] = refl
    at_comma (d ∷ r) = refl

bare_behind : (f : Figure) (t : List ℕ) (e : Ending) (r : List ℕ) → Behind t e r → bare f t ≡ field_of f e r
unfolding bare
bare_behind f t e r behind =
    ⊎_elim (λ end. ap (bare f) end.0 ∙ ap (ended f) (sym end.0))
    (⊎_elim (λ at. ap (bare f) at.0 ∙ ap (ended f) (sym at.0)) (λ at. ap (bare f) at.0 ∙ ap (ended f) (sym at.0))) behind
    ∙ ended_behind f t e r behind

bare_content : (f : Figure) (c t : List ℕ) → Plain c → bare f (c ++ t) ≡ bare (figure_from f c) t
unfolding bare figure_from
bare_content f [] t plain = refl
bare_content f (b ∷ c) t plain =
    ap (λ (m : Bool). cond m (ended f (b ∷ c ++ t)) (bare (more f b) (c ++ t))) plain.0 ∙ bare_content (more f b) c t plain.1

quoted_byte : (f : Figure) (b : ℕ) (c t : List ℕ) → quoted true (more f b) (doubled c ++ quote ∷ t) ≡ quoted false (figure_from (more f b) c) t
    → quoted true f (doubled (b ∷ c) ++ quote ∷ t) ≡ quoted false (figure_from f (b ∷ c)) t
unfolding quoted figure_from doubled
quoted_byte f b c t rest =
    ⊎_elim
    (λ is.
    ap (λ (m : Bool). quoted true f (cond m (quote ∷ quote ∷ doubled c) (b ∷ doubled c) ++ quote ∷ t)) is
    ∙ ap (λ (x : ℕ). quoted true (more f x) (doubled c ++ quote ∷ t)) (sym (eqb-true b quote is)) ∙ rest)
    (λ is.
    ap (λ (m : Bool). quoted true f (cond m (quote ∷ quote ∷ doubled c) (b ∷ doubled c) ++ quote ∷ t)) is
    ∙ ap (λ (m : Bool). quoted (not m) (cond m f (more f b)) (doubled c ++ quote ∷ t)) is ∙ rest)
    (bool_cases (eqb b quote))

quoted_content : (f : Figure) (c t : List ℕ) → quoted true f (doubled c ++ quote ∷ t) ≡ quoted false (figure_from f c) t
unfolding quoted figure_from doubled
quoted_content f [] t = refl
quoted_content f (b ∷ c) t = quoted_byte f b c t (quoted_content (more f b) c t)

shut_behind : (f : Figure) (t : List ℕ) (e : Ending) (r : List ℕ) → Behind t e r → quoted false f t ≡ field_of f e r
unfolding quoted
shut_behind f t e r behind =
    ⊎_elim (λ end. ap (quoted false f) end.0 ∙ ap (ended f) (sym end.0))
    (⊎_elim (λ at. ap (quoted false f) at.0 ∙ ap (ended f) (sym at.0)) (λ at. ap (quoted false f) at.0 ∙ ap (ended f) (sym at.0))) behind
    ∙ ended_behind f t e r behind

field_quoted : (s c t : List ℕ) (e : Ending) (r : List ℕ) → Quoted s c t → Behind t e r → field s ≡ field_of (figure_of c) e r
unfolding field
field_quoted s c t e r form behind = ap field form.text ∙ quoted_content nothing c t ∙ shut_behind (figure_of c) t e r behind

-- a plain byte is no quote
pub plain_unquoted : (b : ℕ) → is_mark b ≡ false → eqb b quote ≡ false
plain_unquoted b plain =
    let no_comma = none_of_or (eqb b comma) (eqb b CR || (eqb b LF || eqb b quote)) plain in
    let no_CR = none_of_or (eqb b CR) (eqb b LF || eqb b quote) no_comma.1 in
    (none_of_or (eqb b LF) (eqb b quote) no_CR.1).1

field_plain : (c t : List ℕ) (e : Ending) (r : List ℕ) → Plain c → Behind t e r → field (c ++ t) ≡ bare nothing (c ++ t)
unfolding field
field_plain [] t e r plain behind =
    ⊎_elim (λ end. ap field end.0 ∙ ap (bare nothing) (sym end.0))
    (⊎_elim (λ at. ap field at.0 ∙ ap (bare nothing) (sym at.0)) (λ at. ap field at.0 ∙ ap (bare nothing) (sym at.0))) behind
field_plain (b ∷ c) t e r plain behind =
    ap (λ (m : Bool). cond m (quoted true nothing (c ++ t)) (bare nothing (b ∷ c ++ t))) (plain_unquoted b plain.0)

field_bare : (s c t : List ℕ) (e : Ending) (r : List ℕ) → Bare s c t → Behind t e r → field s ≡ field_of (figure_of c) e r
field_bare s c t e r form behind =
    ap field form.text ∙ field_plain c t e r form.plain behind ∙ bare_content nothing c t form.plain ∙ bare_behind (figure_of c) t e r behind

-- each field of the grammar is read, to the figure of its content
pub field_read : (s c : List ℕ) (e : Ending) (r : List ℕ) → FieldAt s c e r → field s ≡ field_of (figure_of c) e r
field_read s c e r at =
    ⊎_elim (λ form. field_bare s c at.behind e r form at.after) (λ form. field_quoted s c at.behind e r form at.after) at.form

-- ---- record
pub apart : {t : Bool} → t ≡ true → t ≡ false → ⊥
apart holds fails = let z : ◌≡◌ {A = ℕ} 0 1 = ap (λ (x : Bool). cond x 0 1) (sym holds ∙ fails) in omega arith

-- each record of the grammar is read, to the figures of its contents
pub record_read : {s : List ℕ} {cs : List (List ℕ)} {r : List ℕ} → RecordAt s cs r → record_of s ≡ record { fields = figures cs; whole = true; rest = r }
unfolding figures
record_read (ends s c r at) =
    let first = field_read s c Line r at in
    record_line s (ap (λ (d : Field). d.ending) first) ∙ ap (λ (d : Field). record { fields = d.figure ∷ []; whole = true; rest = d.rest }) first
record_read (continues s c t cs r at rest) =
    let first = field_read s c Comma t at in
    record_comma s (ap (λ (d : Field). d.ending) first) ∙ ap (λ (d : Field). before d.figure (record_of d.rest)) first
    ∙ ap (before (figure_of c)) (record_read rest)

-- s begins with a record of the grammar, which was read
pub record RecordRead (s : List ℕ) : Type 0 where
  pub contents : List (List ℕ)
  pub at : RecordAt s contents (record_of s).rest
  pub fields : (record_of s).fields ≡ figures contents

ends_in : (s : List ℕ) (e : Ending) → (field s).ending ≡ e → (e ≡ Broken → ⊥) → FieldRead s (field s).figure e (field s).rest
ends_in s e is whole = subst (λ (x : Ending). FieldRead s (field s).figure x (field s).rest) is (field_grammar s (λ bad. whole (sym is ∙ bad)))

line_grammar : (s : List ℕ) → (field s).ending ≡ Line → RecordRead s
unfolding figures
line_grammar s is =
    let here = record_line s is in
    let first = ends_in s Line is (λ bad. let z : ◌≡◌ {A = ℕ} 0 1 = cc in omega arith) in
    record {
      contents = first.content ∷ [];
      at =
          subst (λ (r : List ℕ). RecordAt s (first.content ∷ []) r) (sym (ap (λ (x : Record). x.rest) here))
          (ends s first.content (field s).rest first.at);
      fields = ap (λ (x : Record). x.fields) here ∙ ap (λ (f : Figure). f ∷ []) first.figure;
    }

comma_grammar : (s : List ℕ) → (field s).ending ≡ Comma → RecordRead (field s).rest → RecordRead s
unfolding figures
comma_grammar s is others =
    let here = record_comma s is in
    let first = ends_in s Comma is (λ bad. let z : ◌≡◌ {A = ℕ} 0 1 = cc in omega arith) in
    let t = (field s).rest in
    record {
      contents = first.content ∷ others.contents;
      at =
          subst (λ (r : List ℕ). RecordAt s (first.content ∷ others.contents) r) (sym (ap (λ (x : Record). x.rest) here))
          (continues s first.content t others.contents (record_of t).rest first.at others.at);
      fields =
          ap (λ (x : Record). x.fields) here ∙ ap (λ (f : Figure). f ∷ (record_of t).fields) first.figure
          ∙ ap (λ (fs : List Figure). figure_of first.content ∷ fs) others.fields;
    }

within_grammar : (most : ℕ) (s : List ℕ) → length s < most → (record_of s).whole ≡ true → RecordRead s
within_grammar zero s short whole = absurd (omega arith)
within_grammar (suc most) s short whole =
    ⊎_elim
    (λ is.
    let less = (field_shorter s).comma is in
    comma_grammar s is (within_grammar most (field s).rest (omega arith) (sym (ap (λ (x : Record). x.whole) (record_comma s is)) ∙ whole)))
    (⊎_elim (line_grammar s) (λ is. absurd (apart whole (ap (λ (x : Record). x.whole) (record_broken s is))))) (ending_cases (field s).ending)

-- a record that is not broken is one of the grammar
pub record_grammar : (s : List ℕ) → (record_of s).whole ≡ true → RecordRead s
record_grammar s whole = within_grammar (suc (length s)) s (omega arith) whole

-- it is broken exactly where the grammar has none
pub record_unreadable : (s : List ℕ) → Unreadable s → (record_of s).whole ≡ false
record_unreadable s none =
    ⊎_elim (λ whole. absurd (let read = record_grammar s whole in none read.contents (record_of s).rest read.at)) (λ broken. broken)
    (bool_cases (record_of s).whole)

pub unreadable_record : (s : List ℕ) → (record_of s).whole ≡ false → Unreadable s
unreadable_record s broken cs r at = apart (ap (λ (x : Record). x.whole) (record_read at)) broken
