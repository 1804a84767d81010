use Rattle.std.proofs.Common.{ℕ, ◌+◌, ◌∷◌, List, length, ap, ap₂, sym, ◌∙◌}
use Rattle.std.specs.Str.Lines.{lines}
use Rattle.std.proofs.Math.Seq.{drop-length}
use Rattle.prta_ticksim.proofs.FirstLines.{line_at_feed, line_without_feed, rest_of}
use Rattle.prta_ticksim.proofs.line.first_line.Goals as goal

pub returns-in-Some-clause-lines : goal.returns-in-Some-clause-lines
returns-in-Some-clause-lines c =
    line_at_feed c.args.bytes.now c.in-Some.end (sym c.line_feed.ensures ∙ c.in-Some.is)
    ∙ ap₂ (λ (line : List ℕ) (later : List ℕ). line ∷ lines later) (sym c.without_return.ensures) (sym (rest_of c.args.bytes.now (c.in-Some.end + 1)))

pub returns-in-None-clause-lines : goal.returns-in-None-clause-lines
returns-in-None-clause-lines c =
    line_without_feed c.args.bytes.now (sym c.line_feed.ensures ∙ c.in-None.is) c.requires
    ∙ ap (λ (later : List ℕ). c.args.bytes.now ∷ lines later) (sym (rest_of c.args.bytes.now (length c.args.bytes.now) ∙ drop-length c.args.bytes.now))
