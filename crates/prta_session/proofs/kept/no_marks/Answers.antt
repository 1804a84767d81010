use Rattle.std.proofs.Common.{◌≡◌, false, replicate, length, ap, ◌∙◌}
use Rattle.std.proofs.lemmas.List.{length-replicate, get_or-replicate}
use Rattle.prta_session.specs.State.{flags}
use Rattle.prta_session.proofs.Marks.{marks_are}
use Rattle.prta_session.proofs.kept.no_marks.Goals as goal

pub returns : goal.returns
returns c =
    let n = length c.tasks.result.now in
    let none : replicate n false ≡ flags n (λ task. false) = marks_are (replicate n false) n (λ task. false) (length-replicate n false) (λ i low. get_or-replicate n i false false low) in
    c.in_ok-vec.ensures.items_if_clones_equal (λ y e. e) ∙ none ∙ ap (λ tasks. flags (length tasks) (λ task. false)) c.tasks.ensures.tasks
