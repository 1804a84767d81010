-- The lines of a certificate, task by task.
use Rattle.std.proofs.Common.{◌≡◌, ℕ, suc, ◌+◌, List, [], ◌∷◌, ◌++◌, length, map, flat_map, get_or, codes, refl, ap, ap₂, ◌∙◌, ◌<◌, arith}
use Rattle.std.specs.List.{range_with_len}
use Rattle.prta_sheet.specs.Sheet.{Task}
use Rattle.prta_certfile.specs.declared.level.CertLevel.{CertLevel}
use Rattle.prta_certfile.specs.Text.{title, level_text, level_lines}
use Rattle.prta_certificate.specs.Levels.{cert_level}
use Rattle.prta_report.specs.Certificates.{name_of, CertifyWritesCertificate}

-- the lines of tasks that stand from place k on are those of their levels in turn
lines_from : (name : ℕ → List ℕ) (level : ℕ → CertLevel) (d : Task) (tasks : List Task) (k : ℕ) → ((j : ℕ) → j < length tasks → name (k + j) ≡ (get_or tasks j d).name) →
    flat_map (λ i. level_text (name i) (level i) ++ codes "\n") (range_with_len k (length tasks)) ≡ level_lines tasks (map level (range_with_len k (length tasks)))
lines_from name level d [] k named = refl
lines_from name level d (task ∷ tasks) k named =
    let first : k ≡ k + 0 = omega arith in
    let here : name k ≡ task.name = ap name first ∙ named 0 (omega arith) in
    ap₂ (λ n rest. level_text n (level k) ++ codes "\n" ++ rest) here
    (lines_from name level d tasks (k + 1)
    (λ j low.
    let next : k + 1 + j ≡ k + suc j = omega arith in
    ap name next ∙ named (suc j) (omega (arith, low))))

pub certify_writes : CertifyWritesCertificate
certify_writes sheet =
    ap (λ lines. title ++ codes "\n" ++ lines ++ codes "end\n")
    (lines_from (name_of sheet) (cert_level sheet) _ sheet.tasks 0
    (λ j low.
    let same : 0 + j ≡ j = omega arith in
    ap (name_of sheet) same))
