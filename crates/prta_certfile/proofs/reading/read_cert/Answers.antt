use Rattle.prta_certfile.proofs.Answered.{levels_answered, printed_answered, prefix_answered}
use Rattle.prta_certfile.proofs.reading.read_cert.Goals as goal

pub returns : goal.returns
returns c =
    let sheet = c.args.sheet.now in
    let bytes = c.args.bytes.now in
    let r = c.read_levels.result in
    let is = c.read_levels.ensures.reading in
    record {
      reading = is;
      levels = levels_answered sheet.tasks sheet.settings.cap bytes c.read_texts_are_printed.ensures r is;
      printed = printed_answered sheet.tasks sheet.settings.cap bytes c.read_texts_are_printed.ensures r is;
      prefix = prefix_answered sheet.tasks sheet.settings.cap bytes c.prefixes_are_refused.ensures r is;
      memory = c.read_levels.ensures.memory;
    }
