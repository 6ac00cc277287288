-- The grammar of a CSV text: RFC 4180 as document 02, request one, narrows it (line ends are CRLF, and the last may lack it). No reader is near it.
--   LF, CR, quote, comma   the bytes that the grammar names; is_digit b: '0' to '9'
--   is_mark b          no bare field holds b: a comma, CR, LF or quote; Plain c: c has none of them
--   doubled c         the content c with each quote written twice
--   Bare s c t        s is the plain content c, then t
--   Quoted s c t      s is a quote, c with its quotes doubled, a quote, then t
--   Behind t e r      the text t stands behind a field: nothing, or CRLF and then r (Line), or a comma and then r (Comma)
--   FieldAt s c e r   s begins with a field of content c, bare or quoted; behind it e and then r
--   RecordAt s cs r   s begins with a record of the contents cs: fields with commas between them, the last with the end of the text or CRLF behind it, then r
--   TextOf s rs       s is the records rs, one behind the other: behind a record that is not the last stands more text
--   Unreadable s      s begins with no record
-- `field_grammar`, `field_read`, `record_grammar` and `record_read` of `proofs/GrammarLaws.antt` tie the reader of `specs/Csv.antt` to it; `text_unique` of
-- `proofs/UniqueLaws.antt`: a text has one list of records.
-- Assumes nothing.
use Rattle.std.specs.Prelude.{◌≡◌, ◌⊎◌, Bool, false, ◌&&◌, ◌||◌, cond, List, [], ◌∷◌, ◌++◌, ℕ, eqb, leb}
use Rattle.book.specs.Lists.{All}
use Rattle.csv_model.specs.declared.Ending.{Ending}
use Rattle.csv_model.specs.declared.Ending.TheVariants.{Comma, Line}

-- ---- bytes
abbrev pub LF : ℕ
LF = 10

abbrev pub CR : ℕ
CR = 13

abbrev pub quote : ℕ
quote = 34

abbrev pub comma : ℕ
comma = 44

abbrev pub is_digit : ℕ → Bool
is_digit b = leb 48 b && leb b 57

abbrev pub is_mark : ℕ → Bool
is_mark b = eqb b comma || (eqb b CR || (eqb b LF || eqb b quote))

-- ---- fields
abbrev pub Plain : List ℕ → Type 0
Plain c = All (λ b. is_mark b ≡ false) c

unfoldable pub doubled : List ℕ → List ℕ
doubled [] = []
doubled (b ∷ c) = cond (eqb b quote) (quote ∷ quote ∷ doubled c) (b ∷ doubled c)

pub record Bare (s c t : List ℕ) : Type 0 where
  pub text : s ≡ c ++ t
  pub plain : Plain c

pub record Quoted (s c t : List ℕ) : Type 0 where
  pub text : s ≡ quote ∷ doubled c ++ quote ∷ t

abbrev pub Behind : List ℕ → Ending → List ℕ → Type 0
Behind t e r =
    ((t ≡ []) × (e ≡ Line) × (r ≡ []))
    ⊎ (((t ≡ comma ∷ r) × (e ≡ Comma)) ⊎ ((t ≡ CR ∷ LF ∷ r) × (e ≡ Line)))

pub record FieldAt (s c : List ℕ) (e : Ending) (r : List ℕ) : Type 0 where
  pub behind : List ℕ
  pub form : Bare s c behind ⊎ Quoted s c behind
  pub after : Behind behind e r

-- ---- records and texts
pub data RecordAt : List ℕ → List (List ℕ) → List ℕ → Type 0 where
  ends : (s c r : List ℕ) → FieldAt s c Line r → RecordAt s (c ∷ []) r
  continues : (s c t : List ℕ) (cs : List (List ℕ)) (r : List ℕ) → FieldAt s c Comma t → RecordAt t cs r → RecordAt s (c ∷ cs) r

pub data TextOf : List ℕ → List (List (List ℕ)) → Type 0 where
  last : (s : List ℕ) (cs : List (List ℕ)) → RecordAt s cs [] → TextOf s (cs ∷ [])
  followed : (s : List ℕ) (cs : List (List ℕ)) (b : ℕ) (t : List ℕ) (rs : List (List (List ℕ))) → RecordAt s cs (b ∷ t) → TextOf (b ∷ t) rs → TextOf s (cs ∷ rs)

abbrev pub Unreadable : List ℕ → Type 0
Unreadable s = (cs : List (List ℕ)) (r : List ℕ) → RecordAt s cs r → ⊥
