use Rattle.prta_session.proofs.Lines.{accepted_answer, prints_answer}
use Rattle.prta_session.proofs.reading.read_script.Goals as goal

pub returns-clause-accepted : goal.returns-clause-accepted
returns-clause-accepted c = accepted_answer c.args.sheet.now c.args.bytes.now c.read_lines.result c.read_lines.ensures

pub returns-clause-prints : goal.returns-clause-prints
returns-clause-prints c = prints_answer c.args.sheet.now c.args.bytes.now c.read_lines.result c.if-bytes-gt-SCRIPT_LIMIT.false c.read_lines.ensures
