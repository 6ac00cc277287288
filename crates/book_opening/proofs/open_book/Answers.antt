-- `book_opening::open_book` meets its contract: dead where the book does not close (`unclosed_book`), else opening from the rises of its closed table
-- says whether its masks settle (`opened_loaded`). Assumes nothing.
use borrow.Author.Tests.{not-true, not-false}
use Rattle.book_opening.proofs.OpenLaws.{unclosed_book, closed_book_lem, rooms_loaded, opened_loaded}
use Rattle.book_opening.proofs.open_book.Goals as goal

pub returns-then-not-closed_rises : goal.returns-then-not-closed_rises
returns-then-not-closed_rises c = unclosed_book _ c.closed_rises.ensures (not-true _ c.if-not-closed_rises.true-raw)

pub open-requires : goal.open-requires
open-requires c =
    let room = c.requires in
    let loaded = c.load_masks in
    let n = c.slots-n in
    let k = c.values-k in
    let noted = c.closed_rises in
    rooms_loaded room loaded.ensures n.ensures.0 k.ensures.0 noted.auto.lower_rises noted.auto.upper_rises

pub returns : goal.returns
returns c =
    let room = c.requires in
    let loaded = c.load_masks in
    let n = c.slots-n in
    let k = c.values-k in
    let noted = c.closed_rises in
    let opened = c.«open» in
    opened_loaded room loaded.ensures n.ensures.0 k.ensures.0 opened.result
    (closed_book_lem _ noted.ensures (not-false _ c.if-not-closed_rises.false-raw)) opened.ensures
