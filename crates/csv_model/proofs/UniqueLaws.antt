-- A text has one reading by the grammar of `specs/Rfc.antt`: `field_unique`, `record_unique`, `text_unique` (two lists of records of one text are one). No
-- contract cites this file. Assumes nothing.
use mathlib.Core.Path.{◌≡◌, refl, sym, ap, ap₂, subst, ◌∙◌}
use mathlib.Core.Logic.{⊎_elim}
use mathlib.Core.Bool.{Bool, true, false, not, cond}
use mathlib.Core.List.{List, [], ◌∷◌, ◌++◌}
use Prim.Native.Nat.{ℕ}
use native.Mathlib.Omega.{arith}
use lib.Dec.{eqb}
use lib.ListN.{length, get_or, drop}
use borrow.Author.Tests.{eq-eqb, eqb-true}
use Rattle.csv_model.specs.declared.Ending.{Ending}
use Rattle.csv_model.specs.declared.Ending.TheVariants.{Comma, Line}
use Rattle.csv_model.specs.Rfc.{quote, is_mark, doubled, Plain, Behind, FieldAt, RecordAt, ends, continues, TextOf, last, followed}
use Rattle.csv_model.specs.Csv.{Field, Record}
use Rattle.csv_model.proofs.GrammarLaws.{apart, plain_unquoted, field_read, record_read}

-- ---- lists
heads : {a b : ℕ} {s t : List ℕ} → ◌≡◌ {A = List ℕ} (a ∷ s) (b ∷ t) → a ≡ b
heads same = ap (λ (l : List ℕ). get_or l 0 0) same

tails : {a b : ℕ} {s t : List ℕ} → ◌≡◌ {A = List ℕ} (a ∷ s) (b ∷ t) → s ≡ t
tails same = ap (λ (l : List ℕ). drop 1 l) same

-- ---- what stands behind a field
-- it begins with a mark that is no quote, or is nothing
abbrev marked : List ℕ → Bool
marked [] = true
marked (b ∷ t) = is_mark b

abbrev closed : List ℕ → Bool
closed [] = true
closed (b ∷ t) = not (eqb b quote)

behind_marked : (t : List ℕ) (e : Ending) (r : List ℕ) → Behind t e r → marked t ≡ true
behind_marked t e r =
    ⊎_elim (λ end. ap (λ (l : List ℕ). marked l) end.0) (⊎_elim (λ at. ap (λ (l : List ℕ). marked l) at.0) (λ at. ap (λ (l : List ℕ). marked l) at.0))

behind_closed : (t : List ℕ) (e : Ending) (r : List ℕ) → Behind t e r → closed t ≡ true
behind_closed t e r =
    ⊎_elim (λ end. ap (λ (l : List ℕ). closed l) end.0) (⊎_elim (λ at. ap (λ (l : List ℕ). closed l) at.0) (λ at. ap (λ (l : List ℕ). closed l) at.0))

-- ---- bare
bare_unique : (c d t u : List ℕ) → Plain c → Plain d → marked t ≡ true → marked u ≡ true → c ++ t ≡ d ++ u → c ≡ d
bare_unique [] [] t u plain plain' stops stops' same = refl
bare_unique [] (b ∷ d) t u plain plain' stops stops' same = absurd (apart stops (ap (λ (l : List ℕ). marked l) same ∙ plain'.0))
bare_unique (b ∷ c) [] t u plain plain' stops stops' same = absurd (apart stops' (sym (ap (λ (l : List ℕ). marked l) same) ∙ plain.0))
bare_unique (a ∷ c) (b ∷ d) t u plain plain' stops stops' same =
    ap₂ (λ (x : ℕ) (l : List ℕ). x ∷ l) (heads same) (bare_unique c d t u plain.1 plain'.1 stops stops' (tails same))

-- ---- quoted
-- a content byte in quotes, with what follows, by whether it is a quote
abbrev twice : Bool → ℕ → List ℕ → List ℕ
twice true b s = quote ∷ quote ∷ s
twice false b s = b ∷ s

doubled_more : (b : ℕ) (c t : List ℕ) → doubled (b ∷ c) ++ t ≡ twice (eqb b quote) b (doubled c ++ t)
unfolding doubled
doubled_more b c t = go (eqb b quote)
  where
    go : (q : Bool) → cond q (quote ∷ quote ∷ doubled c) (b ∷ doubled c) ++ t ≡ twice q b (doubled c ++ t)
    go true = refl
    go false = refl

-- the quote that closes is no content
shut_open : (q : Bool) (b : ℕ) (t s : List ℕ) → eqb b quote ≡ q → closed t ≡ true → quote ∷ t ≡ twice q b s → ⊥
shut_open true b t s is shut same = apart shut (ap (λ (l : List ℕ). closed l) (tails same))
shut_open false b t s is shut same = apart (eq-eqb b quote (sym (heads same))) is

twice_first : (p q : Bool) (a b : ℕ) (s t : List ℕ) → eqb a quote ≡ p → eqb b quote ≡ q → twice p a s ≡ twice q b t → (a ≡ b) × (s ≡ t)
twice_first true true a b s t is is' same = (eqb-true a quote is ∙ sym (eqb-true b quote is'), tails (tails same))
twice_first true false a b s t is is' same = absurd (apart (eq-eqb b quote (sym (heads same))) is')
twice_first false true a b s t is is' same = absurd (apart (eq-eqb a quote (heads same)) is)
twice_first false false a b s t is is' same = (heads same, tails same)

quoted_unique : (c d t u : List ℕ) → closed t ≡ true → closed u ≡ true → doubled c ++ quote ∷ t ≡ doubled d ++ quote ∷ u → c ≡ d
unfolding doubled
quoted_unique [] [] t u shut shut' same = refl
quoted_unique [] (b ∷ d) t u shut shut' same = absurd (shut_open (eqb b quote) b t (doubled d ++ quote ∷ u) refl shut (same ∙ doubled_more b d (quote ∷ u)))
quoted_unique (b ∷ c) [] t u shut shut' same =
    absurd (shut_open (eqb b quote) b u (doubled c ++ quote ∷ t) refl shut' (sym same ∙ doubled_more b c (quote ∷ t)))
quoted_unique (a ∷ c) (b ∷ d) t u shut shut' same =
    let both = twice_first (eqb a quote) (eqb b quote) a b (doubled c ++ quote ∷ t) (doubled d ++ quote ∷ u) refl refl
    (sym (doubled_more a c (quote ∷ t)) ∙ same ∙ doubled_more b d (quote ∷ u)) in
    ap₂ (λ (x : ℕ) (l : List ℕ). x ∷ l) both.0 (quoted_unique c d t u shut shut' both.1)

-- ---- field
-- no field is both
bare_quoted : (c t u : List ℕ) → Plain c → closed t ≡ true → c ++ t ≡ quote ∷ u → ⊥
bare_quoted [] t u plain shut same = apart shut (ap (λ (l : List ℕ). closed l) same)
bare_quoted (b ∷ c) t u plain shut same = apart (eq-eqb b quote (heads same)) (plain_unquoted b plain.0)

pub field_unique : {s c d : List ℕ} {e e' : Ending} {r r' : List ℕ} → FieldAt s c e r → FieldAt s d e' r' → c ≡ d
field_unique {c = c} {d} {e} {e'} {r} {r'} at at' =
    let t = at.behind in
    let u = at'.behind in
    let shut = behind_closed t e r at.after in
    let shut' = behind_closed u e' r' at'.after in
    ⊎_elim
    (λ form.
    ⊎_elim
    (λ form'.
    bare_unique c d t u form.plain form'.plain (behind_marked t e r at.after) (behind_marked u e' r' at'.after) (sym form.text ∙ form'.text))
    (λ form'. absurd (bare_quoted c t (doubled d ++ quote ∷ u) form.plain shut (sym form.text ∙ form'.text))) at'.form)
    (λ form.
    ⊎_elim (λ form'. absurd (bare_quoted d u (doubled c ++ quote ∷ t) form'.plain shut' (sym form'.text ∙ form.text)))
    (λ form'. quoted_unique c d t u shut shut' (tails (sym form.text ∙ form'.text))) at'.form)
    at.form

-- ---- record
line_comma : {e : Ending} → e ≡ Line → e ≡ Comma → ⊥
line_comma line comma = let same = sym line ∙ comma in let z : ◌≡◌ {A = ℕ} 0 1 = cc in omega arith

ends_unique : (c r : List ℕ) {s : List ℕ} {ds : List (List ℕ)} {r' : List ℕ} → FieldAt s c Line r → RecordAt s ds r' → ◌≡◌ {A = List (List ℕ)} (c ∷ []) ds
ends_unique c r at (ends s d r' at') = ap (λ (l : List ℕ). l ∷ []) (field_unique at at')
ends_unique c r at (continues s d t ds r' at' rest) =
    absurd (line_comma (ap (λ (x : Field). x.ending) (field_read s c Line r at)) (ap (λ (x : Field). x.ending) (field_read s d Comma t at')))

continues_unique : (c t : List ℕ) (cs : List (List ℕ)) {s : List ℕ} {ds : List (List ℕ)} {r : List ℕ} → FieldAt s c Comma t
    → ((es : List (List ℕ)) (q : List ℕ) → RecordAt t es q → cs ≡ es) → RecordAt s ds r → c ∷ cs ≡ ds
continues_unique c t cs at others (ends s d r at') =
    absurd (line_comma (ap (λ (x : Field). x.ending) (field_read s d Line r at')) (ap (λ (x : Field). x.ending) (field_read s c Comma t at)))
continues_unique c t cs at others (continues s d u ds r at' rest) =
    let same : u ≡ t = sym (ap (λ (x : Field). x.rest) (field_read s d Comma u at')) ∙ ap (λ (x : Field). x.rest) (field_read s c Comma t at) in
    ap₂ (λ (l : List ℕ) (ls : List (List ℕ)). l ∷ ls) (field_unique at at') (others ds r (subst (λ (v : List ℕ). RecordAt v ds r) same rest))

pub record_unique : {s : List ℕ} {cs : List (List ℕ)} {r : List ℕ} → RecordAt s cs r → (ds : List (List ℕ)) (q : List ℕ) → RecordAt s ds q → cs ≡ ds
record_unique (ends s c r at) ds q other = ends_unique c r at other
record_unique (continues s c t cs r at rest) ds q other = continues_unique c t cs at (record_unique rest) other

-- ---- text
rest_same : {s : List ℕ} {cs ds : List (List ℕ)} {r q : List ℕ} → RecordAt s cs r → RecordAt s ds q → r ≡ q
rest_same at at' = sym (ap (λ (x : Record). x.rest) (record_read at)) ∙ ap (λ (x : Record). x.rest) (record_read at')

last_unique : (cs : List (List ℕ)) {s : List ℕ} {rs : List (List (List ℕ))} → RecordAt s cs [] → TextOf s rs → ◌≡◌ {A = List (List (List ℕ))} (cs ∷ []) rs
last_unique cs at (last s ds at') = ap (λ (l : List (List ℕ)). l ∷ []) (record_unique at ds [] at')
last_unique cs at (followed s ds b t rs at' rest) = absurd (let z = ap length (rest_same at at') in omega arith)

followed_unique : (cs : List (List ℕ)) (b : ℕ) (t : List ℕ) (rs : List (List (List ℕ))) {s : List ℕ} {qs : List (List (List ℕ))} → RecordAt s cs (b ∷ t)
    → ((ps : List (List (List ℕ))) → TextOf (b ∷ t) ps → rs ≡ ps) → TextOf s qs → cs ∷ rs ≡ qs
followed_unique cs b t rs at others (last s ds at') = absurd (let z = ap length (rest_same at at') in omega arith)
followed_unique cs b t rs at others (followed s ds a u qs at' rest) =
    ap₂ (λ (l : List (List ℕ)) (ls : List (List (List ℕ))). l ∷ ls) (record_unique at ds (a ∷ u) at')
    (others qs (subst (λ (v : List ℕ). TextOf v qs) (rest_same at' at) rest))

pub text_unique : {s : List ℕ} {rs : List (List (List ℕ))} → TextOf s rs → (qs : List (List (List ℕ))) → TextOf s qs → rs ≡ qs
text_unique (last s cs at) qs other = last_unique cs at other
text_unique (followed s cs b t rs at rest) qs other = followed_unique cs b t rs at (text_unique rest) other
