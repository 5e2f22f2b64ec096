-- `put_text` puts the text of each kind of line.
use mathlib.Core.Path.{sym, ap}
use Rattle.text.proofs.Standing.{room_as, by_case}
use Rattle.ride_text.specs.Text.{text_with, line_text}
use Rattle.ride_text.proofs.lines.put_text.Goals as goal

pub put_seen-requires : goal.put_seen-requires
unfolding text_with
put_seen-requires c =
    room_as c.args.buf.now c.args.at (sym (ap (line_text c.args.reasons c.args.closed) c.in-Group.is)) c.requires

pub put_fault-requires : goal.put_fault-requires
unfolding text_with
put_fault-requires c =
    room_as c.args.buf.now c.args.at (sym (ap (line_text c.args.reasons c.args.closed) c.in-Fault.is)) c.requires

pub put_missed-requires : goal.put_missed-requires
unfolding text_with
put_missed-requires c =
    room_as c.args.buf.now c.args.at (sym (ap (line_text c.args.reasons c.args.closed) c.in-Missed.is)) c.requires

pub put_record-requires : goal.put_record-requires
unfolding text_with
put_record-requires c =
    room_as c.args.buf.now c.args.at (sym (ap (line_text c.args.reasons c.args.closed) c.in-Record.is)) c.requires

pub put_numbered-requires : goal.put_numbered-requires
unfolding text_with
put_numbered-requires c =
    room_as c.args.buf.now c.args.at (sym (ap (line_text c.args.reasons c.args.closed) c.in-Trace.is)) c.requires

pub returns-in-Group : goal.returns-in-Group
unfolding text_with
returns-in-Group c =
    by_case (line_text c.args.reasons c.args.closed) c.args.buf.now c.args.at c.in-Group.is c.put_seen.ensures

pub returns-in-Fault : goal.returns-in-Fault
unfolding text_with
returns-in-Fault c =
    by_case (line_text c.args.reasons c.args.closed) c.args.buf.now c.args.at c.in-Fault.is c.put_fault.ensures

pub returns-in-Missed : goal.returns-in-Missed
unfolding text_with
returns-in-Missed c =
    by_case (line_text c.args.reasons c.args.closed) c.args.buf.now c.args.at c.in-Missed.is c.put_missed.ensures

pub returns-in-Record : goal.returns-in-Record
unfolding text_with
returns-in-Record c =
    by_case (line_text c.args.reasons c.args.closed) c.args.buf.now c.args.at c.in-Record.is c.put_record.ensures

pub returns-in-Trace : goal.returns-in-Trace
unfolding text_with
returns-in-Trace c =
    by_case (line_text c.args.reasons c.args.closed) c.args.buf.now c.args.at c.in-Trace.is c.put_numbered.ensures
