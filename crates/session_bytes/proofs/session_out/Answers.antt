-- `session_bytes::session_out` meets its contract: what `run_exactly` leaves in words and row is written out as bytes (`session_ran`). Assumes nothing.
use mathlib.Core.Path.{sym, ◌∙◌}
use Rattle.session_fault.proofs.EntryLaws.{session_ran}
use Rattle.session_fault.specs.Entry.{most_marks}
use Rattle.elements.specs.Elements.{bytes_of}
use Rattle.session_bytes.proofs.SessionBytesLaws.{overlay_exact, bytes_overlay, words_length}
use Rattle.session_bytes.proofs.session_out.Goals as goal

pub returns : goal.returns
returns c =
    let ran = c.run_exactly-verdict in
    let long = words_length c.args.book.now c.args.calls.now most_marks ∙ sym c.requires.words_exact in
    session_ran (bytes_of 4) c.args.book.now c.args.calls.now ran.result ran.ensures.answer (ran.ensures.words ∙ overlay_exact _ _ long) ran.ensures.masks
    (c.write32.ensures ∙ bytes_overlay _ _) (c.write32-2.ensures ∙ bytes_overlay _ _)
