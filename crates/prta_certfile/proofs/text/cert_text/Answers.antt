use Rattle.std.proofs.Common.{◌≡◌, List, ℕ, sym, ◌∙◌, ap₂, subst}
use Rattle.std.proofs.lemmas.Result.{IfOk-weaker}
use Rattle.prta_certfile.specs.Text.{cert_text}
use Rattle.prta_certfile.specs.Laws.{States}
use Rattle.prta_certfile.proofs.text.cert_text.Goals as goal

pub returns : goal.returns
returns c =
    let tasks = c.args.sheet.now.tasks in
    let cap = c.args.sheet.now.settings.cap in
    let levels = c.args.cert.now in
    let same : cert_text c.tasks.result.now c.levels.result.now ≡ cert_text tasks levels = ap₂ cert_text c.tasks.ensures.tasks c.levels.ensures in
    record {
      text = IfOk-weaker c.whole_text.result (λ text. text.items ≡ cert_text c.tasks.result.now c.levels.result.now) (λ text. text.items ≡ cert_text tasks levels) (λ text is. is ∙ same) c.whole_text.ensures;
      read = λ are. IfOk-weaker c.whole_text.result (λ text. text.items ≡ cert_text c.tasks.result.now c.levels.result.now) (λ text. States tasks cap text.items levels)
          (λ text is. subst (λ (bytes : List ℕ). States tasks cap bytes levels) (sym (is ∙ same)) (c.certificates_are_read.ensures c.args.sheet.now levels c.tasks.ensures.accepted are)) c.whole_text.ensures;
    }
