-- Texts in parts.
use Rattle.std.proofs.Common.{◌≡◌, ℕ, ◌+◌, ◌-◌, ◌≤◌, ◌++◌, length, length-append, Option, Result, Ok, Err, OnOk, OnErr, List, flat_map, refl, ap, sym, ◌∙◌, subst, append_assoc, append-nil, arith}
use Rattle.prta_sheet.specs.Sheet.{Sheet, sheet_order}
use Rattle.prta_report.specs.Page.{PageParts}
use Rattle.prta_writer.specs.Report.{head, rows, last_line, report_text}
use Rattle.prta_writer.specs.Writing.{TookPart, TookAllBut}
use Rattle.prta_writer.proofs.Taking.{more_put, longer, part_then, part_of_more}
use Rattle.prta_writer.specs.declared.report.What.{What}
use Rattle.prta_writer.specs.declared.report.What.TheVariants.{Analyse, AnalyseCsv, Ledger, Certify}

-- a report is what stands before the rows, the rows, and the last line
pub in_parts : (what : What) (sheet : Sheet) → (head what sheet ++ flat_map (rows what sheet) (sheet_order sheet.tasks)) ++ last_line what ≡ report_text what sheet
in_parts Analyse sheet = refl
in_parts AnalyseCsv sheet = append-nil (head AnalyseCsv sheet ++ flat_map (rows AnalyseCsv sheet) (sheet_order sheet.tasks))
in_parts Ledger sheet = refl
in_parts Certify sheet = refl

-- text in parts after some other: room was made, the first part was pushed, and the body follows
module _ (a b : Option (List ℕ)) (start first body p q : List ℕ) (room : TookAllBut a b start p) (pushed : q ≡ p ++ first) where
  begun : TookAllBut a b ((start ++ first) ++ body) (q ++ body)
  begun = longer a b (start ++ first) q body (subst (TookAllBut a b (start ++ first)) (sym pushed) (longer a b start p first room))

  -- the body was put
  pub body_put : (c : Option (List ℕ)) (r : List ℕ) → TookAllBut b c (q ++ body) r → TookAllBut a c (start ++ (first ++ body)) r
  body_put c r put = subst (λ text. TookAllBut a c text r) (append_assoc start first body) (more_put a b c ((start ++ first) ++ body) (q ++ body) r begun put)

  -- it was put in part
  pub body_cut : (c : Option (List ℕ)) → TookPart b c (q ++ body) → TookPart a c (start ++ (first ++ body))
  body_cut c part = subst (TookPart a c) (append_assoc start first body) (part_then a b c ((start ++ first) ++ body) (q ++ body) begun part)

-- a last part follows them
module _ (a b : Option (List ℕ)) (start text last r : List ℕ) where
  -- it comes no more
  pub last_cut : TookPart a b (start ++ text) → TookPart a b (start ++ (text ++ last))
  last_cut part = subst (TookPart a b) (append_assoc start text last) (part_of_more a b (start ++ text) last part)

  module _ (so_far : TookAllBut a b (start ++ text) r) (c : Option (List ℕ)) where
    -- there was no room for it
    pub last_not_put : TookPart b c r → TookPart a c (start ++ (text ++ last))
    last_not_put part = subst (TookPart a c) (append_assoc start text last) (part_of_more a c (start ++ text) last (part_then a b c (start ++ text) r so_far part))

    -- it was pushed
    pub last_put : (s t : List ℕ) → TookAllBut b c r s → t ≡ s ++ last → TookAllBut a c (start ++ (text ++ last)) t
    last_put s t more e =
        subst (TookAllBut a c (start ++ (text ++ last))) (sym e)
        (subst (λ x. TookAllBut a c x (s ++ last)) (append_assoc start text last) (longer a c (start ++ text) s last (more_put a b c (start ++ text) r s so_far more)))

-- what holds on an answer, and so what follows from it
pub on_ok : {T E P Q : Type 0} (result : Result T E) → OnOk result P → (P → Q) → OnOk result Q
on_ok (Ok value) h f = f h
on_ok (Err fault) h f = tt

pub on_err : {T E P Q : Type 0} (result : Result T E) → OnErr result P → (P → Q) → OnErr result Q
on_err (Ok value) h f = tt
on_err (Err fault) h f = f h

-- what holds anyway holds on a fault
pub anyway : {T E P : Type 0} (result : Result T E) → P → OnErr result P
anyway (Ok value) h = tt
anyway (Err fault) h = h

-- a page keeps its size where bytes are pushed that have room
pub size_pushed : (new old : PageParts) (bytes : List ℕ) → new ≡ record { written = old.written ++ bytes; spare = old.spare - length bytes } → length bytes ≤ old.spare →
    length new.written + new.spare ≡ length old.written + old.spare
size_pushed new old bytes e fits = ap (λ (p : PageParts). length p.written + p.spare) e ∙ omega (arith, fits, length-append old.written bytes)

-- what holds of a call holds of what hands on its answer
pub handed_on : {T E S : Type 0} (P : Result T E → S → Type 0) (r s : Result T E) (a b : S) → r ≡ s → a ≡ b → P s b → P r a
handed_on P r s a b e f h = subst (λ x. P x a) (sym e) (subst (P s) (sym f) h)
