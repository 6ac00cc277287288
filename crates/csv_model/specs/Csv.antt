-- The reader of a CSV text, to be read: what `specs/Rfc.antt` says, computed. Of a field's content only its figure is kept.
--   nothing, no_number   the figure of an empty content, and of one that is no number
--   more f b            the figure f of a content, with byte b behind it
--   figure_of c          the figure of the whole content c; figure_from f c: of c behind a content with figure f; figures cs: of each content
--   Field               a field that was read: its figure, its ending and the text behind
--   field_of f e s       the field with figure f, ending e and the text s behind; broken: one that breaks the grammar
--   ended f s           the field with figure f, where the text s stands behind its content: the end of the text or CRLF ends the record, a comma the field
--   bare f s            a field without quotes: f is the figure so far, s the text from there; it goes to a comma, CR, LF or the end. A quote breaks
--   quoted inside f s   a quoted field, past its first quote. inside: within the quotes; else just behind a quote, which a second one makes content
--   field s             the first field of s
--   Record              a record that was read: its fields, whether it is whole (not broken) and the text behind it
--   broken_record        a record of which nothing was read; before f r: the record r with one field more in front
--   record_of s          the first record of s; record_within counts its fields down
--   records s           all records of s: at least one, and another as long as text is left; records_within counts them down
--   later s             the records of a text that stands behind a record: none where no text is left
-- `record_comma`, `record_line`, `record_broken`, `records_first`, `later_none` and `later_some` of `proofs/CsvLaws.antt` are the equations a reader expects.
-- Assumes nothing.
use Rattle.std.specs.Prelude.{Bool, true, false, not, ◌&&◌, cond, List, [], ◌∷◌, ℕ, zero, suc, ◌+◌, ◌*◌, ◌-◌, eqb, ltb, length}
use Rattle.csv_model.specs.declared.Figure.{Figure}
use Rattle.csv_model.specs.declared.Ending.{Ending}
use Rattle.csv_model.specs.declared.Ending.TheVariants.{Comma, Line, Broken}
use Rattle.csv_model.specs.Rfc.{LF, CR, quote, comma, is_digit, is_mark}

-- ---- figures
abbrev pub nothing : Figure
nothing = record { count = 0; value = 0 }

abbrev pub no_number : Figure
no_number = record { count = 6; value = 0 }

unfoldable pub more : Figure → ℕ → Figure
more f b = cond (is_digit b && ltb f.count 5) (record { count = f.count + 1; value = 10 * f.value + (b - 48) }) no_number

unfoldable pub figure_from : Figure → List ℕ → Figure
figure_from f [] = f
figure_from f (b ∷ c) = figure_from (more f b) c

abbrev pub figure_of : List ℕ → Figure
figure_of c = figure_from nothing c

unfoldable pub figures : List (List ℕ) → List Figure
figures [] = []
figures (c ∷ cs) = figure_of c ∷ figures cs

-- ---- fields
pub record Field : Type 0 where
  pub figure : Figure
  pub ending : Ending
  pub rest : List ℕ

abbrev pub field_of : Figure → Ending → List ℕ → Field
field_of f e s = record { figure = f; ending = e; rest = s }

abbrev pub broken : Field
broken = field_of nothing Broken []

unfoldable pub ended : Figure → List ℕ → Field
ended f [] = field_of f Line []
ended f (b ∷ []) = cond (eqb b comma) (field_of f Comma []) broken
ended f (b ∷ d ∷ s) = cond (eqb b comma) (field_of f Comma (d ∷ s)) (cond (eqb b CR && eqb d LF) (field_of f Line s) broken)

unfoldable pub bare : Figure → List ℕ → Field
bare f [] = ended f []
bare f (b ∷ s) = cond (is_mark b) (ended f (b ∷ s)) (bare (more f b) s)

unfoldable pub quoted : Bool → Figure → List ℕ → Field
quoted true f [] = broken
quoted false f [] = ended f []
quoted true f (b ∷ s) = quoted (not (eqb b quote)) (cond (eqb b quote) f (more f b)) s
quoted false f (b ∷ s) = cond (eqb b quote) (quoted true (more f quote) s) (ended f (b ∷ s))

unfoldable pub field : List ℕ → Field
field [] = bare nothing []
field (b ∷ s) = cond (eqb b quote) (quoted true nothing s) (bare nothing (b ∷ s))

-- ---- records
pub record Record : Type 0 where
  pub fields : List Figure
  pub whole : Bool
  pub rest : List ℕ

abbrev pub broken_record : Record
broken_record = record { fields = []; whole = false; rest = [] }

-- with one field more in front
abbrev pub before : Figure → Record → Record
before f r = record { fields = f ∷ r.fields; whole = r.whole; rest = r.rest }

unfoldable pub record_within : ℕ → List ℕ → Record
record_within zero s = broken_record
record_within (suc most) s =
    elim (field s).ending [
      | Comma ↦ before (field s).figure (record_within most (field s).rest)
      | Line ↦ record { fields = (field s).figure ∷ []; whole = true; rest = (field s).rest }
      | Broken ↦ record { fields = []; whole = false; rest = (field s).rest }
    ]

unfoldable pub record_of : List ℕ → Record
record_of s = record_within (suc (length s)) s

unfoldable pub records_within : ℕ → List ℕ → List Record
records_within zero s = []
records_within (suc most) s = record_of s ∷ elim (eqb (length (record_of s).rest) 0) [ true ↦ [] | false ↦ records_within most (record_of s).rest ]

unfoldable pub records : List ℕ → List Record
records s = records_within (suc (length s)) s

-- the records of a text behind a record: none where no text is left
unfoldable pub later : List ℕ → List Record
later s = cond (eqb (length s) 0) [] (records s)
