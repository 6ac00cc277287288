-- What the code finds of a field, against csv_model's `specs/Csv.antt`.
--   FigureFits f         a figure's value has no more digits than its count says
--   Found d text p       p is the field d of text: its figure, whether its record ends with it, and a place with the text behind it
--   PartOf d text r      r is that where the field d of text keeps RFC 4180, and else the refusal of its quoting
--   width_of text at      how many bytes the content byte at a place takes inside quotes: 2 for a doubled quote, none for the quote that closes
-- Assumes nothing.
use Rattle.std.specs.Prelude.{◌≡◌, cond, List, ℕ, ◌+◌, ◌^◌, ◌≤◌, ◌<◌, eqb, length, get_or, drop, Option, Some, None, Result, Ok, Err}
use Rattle.answer.specs.declared.Refusal.{Refusal}
use Rattle.answer.specs.declared.Refusal.TheVariants.{Quoting}
use Rattle.csv_model.specs.declared.Figure.{Figure}
use Rattle.csv_model.specs.declared.Ending.TheVariants.{Comma, Line, Broken}
use Rattle.csv_model.specs.Rfc.{quote}
use Rattle.csv_model.specs.Csv.{Field}
use Rattle.csv_import.specs.declared.Part.{Part}

pub record FigureFits (f : Figure) : Type 0 where
  pub below : f.value < 10 ^ f.count

pub record Found (d : Field) (text : List ℕ) (p : Part) : Type 0 where
  pub figure : p.figure ≡ d.figure
  pub ending : d.ending ≡ cond p.last Line Comma
  pub rest : drop p.next text ≡ d.rest
  pub inside : p.next ≤ length text

abbrev pub PartOf : Field → List ℕ → Result Part Refusal → Type 0
PartOf d text (Ok p) = Found d text p
PartOf d text (Err refusal) = (refusal ≡ Quoting) × (d.ending ≡ Broken)

abbrev pub width_of : List ℕ → ℕ → Option ℕ
width_of text at = cond (eqb (get_or text at 0) quote) (cond (eqb (get_or text (at + 1) 0) quote) (Some 2) None) (Some 1)
