-- What an importer answers for a text, in document 02's words and by the grammar of `specs/Rfc.antt`: no reader is near it. A record is the list of the
-- contents of its fields, a text the list of its records.
--   IsNumber c            the content c is one to five digits; decimal c: their number. decimal_from v c: of the digits of v, then c
--   GoodField i c         the field at place i of its record: a number, or an empty upper (place 3); GoodFields i cs: each of cs, from place i on
--   GoodRecord w cs       w fields, and each of them good; GoodRecords w rs: the first has w, each later one 4
--   Past w s w' t         good records of s, the first of which has w fields, lead to the text t, whose first record is to have w'
--   said_by c, said_inside cs i   the number that a good field says, and the one at place i: 65535, none, where it is empty
--   slots_in, types_in      what the first record says
--   row_in cs, rows_in_all rs, rows_in rs   the row of a later record; the rows of all records rs; those of all but the first, in order
--   order_book rs          the bytes of the book: byte 3 is 0, every mask is full, one row for each later record
--   CsvMeans limits s len x   x is what document 02 asks of the text s with an output of len bytes: the number that refuses it, 0 where none does
--   csv_numbers            all of these numbers; is_any x xs: x is one of xs
--   Imported limits rs b  b is the good book that the records rs say: slots, types, byte 3, masks, rows, and so its starting and its closed table
-- `csv_means`, `means_csv` and `import_reads` of `proofs/MeaningLaws.antt`: `csv_fault` is that number, no other is, and an accepted text gives that book.
-- Assumes nothing.
use Rattle.std.specs.Prelude.{◌≡◌, ◌⊎◌, Bool, true, false, ◌||◌, List, [], ◌∷◌, ℕ, suc, ◌+◌, ◌*◌, ◌-◌, ◌≤◌, ◌<◌, eqb, length, get_or, drop}
use Rattle.book.specs.declared.Limits.{Limits}
use Rattle.book.specs.declared.Row.{Row}
use Rattle.book.specs.Layout.{slots, values, idle, masks, rows, book_length}
use Rattle.book.specs.Lists.{All}
use Rattle.book.specs.Refusal.{beyond, GoodBook}
use Rattle.closing_model.specs.Start.{start_lowers, start_uppers}
use Rattle.closing_model.specs.Closing.{closing}
use Rattle.book_bytes.specs.BookBytes.{order_row, book_bytes, full_masks}
use Rattle.csv_model.specs.Rfc.{is_digit, RecordAt, TextOf, Unreadable}
use Rattle.csv_model.specs.Ordered.{rows_fault}

-- ---- good fields and records
unfoldable pub decimal_from : ℕ → List ℕ → ℕ
decimal_from v [] = v
decimal_from v (b ∷ c) = decimal_from (10 * v + (b - 48)) c

abbrev pub decimal : List ℕ → ℕ
decimal c = decimal_from 0 c

pub record IsNumber (c : List ℕ) : Type 0 where
  pub digits : All (λ b. is_digit b ≡ true) c
  pub some : 1 ≤ length c
  pub few : length c ≤ 5

abbrev pub GoodField : ℕ → List ℕ → Type 0
GoodField i c = IsNumber c ⊎ ((i ≡ 3) × (c ≡ []))

abbrev pub GoodFields : ℕ → List (List ℕ) → Type 0
GoodFields i [] = Unit {0}
GoodFields i (c ∷ cs) = GoodField i c × GoodFields (suc i) cs

pub record GoodRecord (w : ℕ) (cs : List (List ℕ)) : Type 0 where
  pub count : length cs ≡ w
  pub fields : GoodFields 0 cs

abbrev pub GoodRecords : ℕ → List (List (List ℕ)) → Type 0
GoodRecords w [] = Unit {0}
GoodRecords w (cs ∷ rs) = GoodRecord w cs × GoodRecords 4 rs

pub data Past : ℕ → List ℕ → ℕ → List ℕ → Type 0 where
  here : (w : ℕ) (s : List ℕ) → Past w s w s
  behind : (w : ℕ) (s : List ℕ) (cs : List (List ℕ)) (b : ℕ) (t : List ℕ) (w' : ℕ) (u : List ℕ)
      → RecordAt s cs (b ∷ t) → GoodRecord w cs → Past 4 (b ∷ t) w' u → Past w s w' u

-- ---- what good records say
abbrev pub said_by : List ℕ → ℕ
said_by [] = 65535
said_by (b ∷ c) = decimal (b ∷ c)

abbrev pub said_inside : List (List ℕ) → ℕ → ℕ
said_inside cs i = said_by (get_or cs i [])

abbrev pub slots_in : List (List (List ℕ)) → ℕ
slots_in rs = said_inside (get_or rs 0 []) 0

abbrev pub types_in : List (List (List ℕ)) → ℕ
types_in rs = said_inside (get_or rs 0 []) 1

-- type, end, lower, upper
abbrev pub row_in : List (List ℕ) → Row
row_in cs = order_row (said_inside cs 0) (said_inside cs 1) (said_inside cs 2) (said_inside cs 3)

unfoldable pub rows_in_all : List (List (List ℕ)) → List Row
rows_in_all [] = []
rows_in_all (cs ∷ rs) = row_in cs ∷ rows_in_all rs

abbrev pub rows_in : List (List (List ℕ)) → List Row
rows_in rs = rows_in_all (drop 1 rs)

abbrev pub order_book : List (List (List ℕ)) → List ℕ
order_book rs = book_bytes (slots_in rs) (types_in rs) 0 (full_masks (slots_in rs) (types_in rs)) (rows_in rs)

-- ---- the numbers
pub data CsvMeans (limits : Limits) (s : List ℕ) (len : ℕ) : ℕ → Type 0 where
  -- behind good records stands text that begins with no record
  breaks : (w : ℕ) (t : List ℕ) → Past 2 s w t → Unreadable t → CsvMeans limits s len 17
  -- behind good records stands one that is not good
  wrong : (w : ℕ) (t : List ℕ) (cs : List (List ℕ)) (r : List ℕ) → Past 2 s w t → RecordAt t cs r → (GoodRecord w cs → ⊥) → CsvMeans limits s len 18
  -- the text is good records; slots, types or the number of rows is out of range
  outside : (rs : List (List (List ℕ))) → TextOf s rs → GoodRecords 2 rs → beyond limits (slots_in rs) (types_in rs) (length (rows_in rs)) ≡ true
      → CsvMeans limits s len 2
  -- the first row with a number has x, 6 to 8
  row_refused : (rs : List (List (List ℕ))) → TextOf s rs → GoodRecords 2 rs → beyond limits (slots_in rs) (types_in rs) (length (rows_in rs)) ≡ false
      → (x : ℕ) → rows_fault (slots_in rs) (types_in rs) (rows_in rs) ≡ suc x → CsvMeans limits s len (suc x)
  -- the output is shorter than the book
  short : (rs : List (List (List ℕ))) → TextOf s rs → GoodRecords 2 rs → beyond limits (slots_in rs) (types_in rs) (length (rows_in rs)) ≡ false
      → rows_fault (slots_in rs) (types_in rs) (rows_in rs) ≡ 0 → len < 12 + 4 * slots_in rs + 8 * length (rows_in rs) → CsvMeans limits s len 9
  accepts : (rs : List (List (List ℕ))) → TextOf s rs → GoodRecords 2 rs → beyond limits (slots_in rs) (types_in rs) (length (rows_in rs)) ≡ false
      → rows_fault (slots_in rs) (types_in rs) (rows_in rs) ≡ 0 → 12 + 4 * slots_in rs + 8 * length (rows_in rs) ≤ len → CsvMeans limits s len 0

-- 0, and the numbers that refuse a text: `csv_numbers_lem` says that there is no other
abbrev pub csv_numbers : List ℕ
csv_numbers = 0 ∷ 2 ∷ 6 ∷ 7 ∷ 8 ∷ 9 ∷ 17 ∷ 18 ∷ []

unfoldable pub is_any : ℕ → List ℕ → Bool
is_any x [] = false
is_any x (y ∷ ys) = eqb x y || is_any x ys

-- ---- the book of an accepted text
pub record Imported (limits : Limits) (rs : List (List (List ℕ))) (b : List ℕ) : Type 0 where
  pub good : GoodBook limits b
  pub slots_are : slots b ≡ slots_in rs
  pub types_are : values b ≡ types_in rs
  pub byte_3 : idle b ≡ 0
  pub masks_are : masks b ≡ full_masks (slots_in rs) (types_in rs)
  pub rows_are : rows b ≡ rows_in rs
  pub length_is : book_length b ≡ length b
  pub lowers_start : start_lowers (slots b) (values b) (rows b) ≡ start_lowers (slots_in rs) (types_in rs) (rows_in rs)
  pub uppers_start : start_uppers (slots b) (values b) (rows b) ≡ start_uppers (slots_in rs) (types_in rs) (rows_in rs)
  pub closed : closing (slots b) (values b) (start_lowers (slots b) (values b) (rows b)) (start_uppers (slots b) (values b) (rows b))
      ≡ closing (slots_in rs) (types_in rs) (start_lowers (slots_in rs) (types_in rs) (rows_in rs)) (start_uppers (slots_in rs) (types_in rs) (rows_in rs))
