-- `reader::places::handed_back` meets its contract. Assumes nothing.
use Rattle.reader.proofs.Handing.{handed_gone, handed_kept}
use Rattle.reader.proofs.places.handed_back.Goals as goal

pub returns-in-Err : goal.returns-in-Err
returns-in-Err g c rules x v done = handed_kept c.args.at c.args.d v x rules c.args.done done _ c.in-Err.why c.in-Err.is c.refused.ensures.0 c.refused.ensures.1

pub returns-in-Ok : goal.returns-in-Ok
returns-in-Ok g c rules x v done = handed_gone c.args.at c.args.d v x rules c.args.done done _ c.in-Ok.is
