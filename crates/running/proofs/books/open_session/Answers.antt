-- `running::books::open_session` meets its contract: Live, the state is that of the book's opening (`opens_live_lem`); Dead, the masks are cleared
-- (`opens_dead`). Assumes nothing.
use mathlib.Core.Path.{◌∙◌, ap}
use Prim.Native.Nat.{ℕ}
use native.Mathlib.Omega.{arith}
use lib.ListN.{replicate}
use Rattle.running_model.proofs.BooksLaws.{opens_live_lem, opens_dead}
use Rattle.running.proofs.books.open_session.Goals as goal

pub idle-idle-requires : goal.idle-idle-requires
idle-idle-requires c = omega (arith, c.requires.state.rises.book.inside)

pub returns-in-Live : goal.returns-in-Live
returns-in-Live c =
    let done = c in
    let opened = done.open_book-outcome in
    let read = done in
    let start = read in
    rw read.idle-idle.ensures.0
    (opens_live_lem start.requires opened.auto.masks opened.auto.cells opened.auto.trail opened.new.lower_rises opened.new.upper_rises
    opened.result c.in-Live.is opened.ensures)

pub returns-in-Dead : goal.returns-in-Dead
returns-in-Dead c =
    let cleared = c.clear_masks in
    let done = c in
    let opened = done.open_book-outcome in
    let read = done in
    let start = read in
    rw read.idle-idle.ensures.0
    (opens_dead start.requires (cleared.auto.masks ∙ opened.auto.masks) opened.auto.cells opened.auto.trail opened.new.masks
    opened.new.lower_rises opened.new.upper_rises opened.result c.in-Dead.is opened.ensures
    (cleared.ensures ∙ ap (λ (m : ℕ). replicate m 0) opened.auto.masks))
