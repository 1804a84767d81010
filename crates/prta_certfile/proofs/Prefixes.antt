-- A proper prefix of a certificate is refused at its last line.
use Rattle.std.proofs.Common.{◌≡◌, ◌⊎◌, ℕ, suc, ◌+◌, ◌-◌, ◌<◌, ◌≤◌, false, not, cond, nat_eq, nat_lt, bytes_eq, Option, Some, None, List, [], ◌∷◌, ◌++◌, length, take, codes, refl, ap, ap₂, ◌∙◌, arith, ⊎_elim, inl, inr, length-append, length-take, le-ltb, ltb-false, eqb-true}
use Rattle.std.proofs.Math.Seq.{take-append-add}
use Rattle.std.proofs.lemmas.Bool.{cases_lt, cases_Bool}
use Rattle.std.proofs.lemmas.List.{take-append-le}
use Rattle.std.proofs.lemmas.List.Elements.{All-head, All-tail, All-take}
use Rattle.std.proofs.lemmas.List.Sums.{sum_by-cons, sum_by-append}
use Rattle.prta_mass.specs.Table.{or_else, when}
use Rattle.prta_sheet.specs.Sheet.{Task}
use Rattle.prta_certfile.specs.declared.fault.CertFault.{CertFault}
use Rattle.prta_certfile.specs.declared.fault.CertFault.TheVariants.{TooLong, BadLine}
use Rattle.prta_certfile.specs.declared.limits.TheConstants.{CERT_LIMIT}
use Rattle.prta_certfile.specs.Text.{title}
use Rattle.prta_certfile.specs.Reading.{cut, line_fault, in_line, end_fault, lines_fault, title_fault}
use Rattle.prta_certfile.specs.Laws.{feeds, PrefixesAreRefused}
use Rattle.prta_certfile.proofs.Cuts.{Lacks, IsCut, cut_at, cut_nowhere}
use Rattle.prta_certfile.proofs.Faults.{first_none, next_none, passes}
use Rattle.prta_certfile.proofs.Printed.{has_line}

-- ---- line feeds

abbrev one_feed : ℕ → ℕ
one_feed b = cond (nat_eq b 10) 1 0

no_feeds : (bytes : List ℕ) → Lacks 10 bytes → feeds bytes ≡ 0
no_feeds [] h = refl
no_feeds (b ∷ bytes) h =
    let here : one_feed b ≡ 0 = ap (λ t. cond t 1 0) (All-head (λ b. nat_eq b 10 ≡ false) b bytes h) in
    omega (arith, sum_by-cons one_feed b bytes, here, no_feeds bytes (All-tail (λ b. nat_eq b 10 ≡ false) b bytes h))

feeds_more : (line rest : List ℕ) → Lacks 10 line → feeds (line ++ 10 ∷ rest) ≡ feeds rest + 1
feeds_more line rest h = omega (arith, sum_by-append one_feed line (10 ∷ rest), sum_by-cons one_feed 10 rest, no_feeds line h)

-- ---- a prefix

-- a prefix ends in the first line, or is that line with a prefix of the rest
record EndsIn (bytes : List ℕ) (n : ℕ) : Type 0 where
  missing : cut 10 (take n bytes) ≡ None
  feeds : feeds (take n bytes) ≡ 0

record GoesPast (bytes line rest : List ℕ) (n k : ℕ) : Type 0 where
  inside : k < length rest
  found : cut 10 (take n bytes) ≡ Some (line, take k rest)
  feeds : feeds (take n bytes) ≡ feeds (take k rest) + 1

prefix_of : (bytes line rest : List ℕ) (n : ℕ) → IsCut 10 bytes line rest → n < length bytes → EndsIn bytes n ⊎ ((k : ℕ) × GoesPast bytes line rest n k)
prefix_of bytes line rest n at low = ⊎_elim
    (λ (past : length line < n).
    let k : ℕ = n - length line - 1 in
    let count : n ≡ length line + suc k = omega arith in
    let whole : take n bytes ≡ line ++ 10 ∷ take k rest = ap₂ (λ (m : ℕ) (bs : List ℕ). take m bs) count at.whole ∙ take-append-add line (10 ∷ rest) (suc k) in
    let size : length bytes ≡ length line + suc (length rest) = ap length at.whole ∙ length-append line (10 ∷ rest) in
    inr (
      k,
      record {
        inside = omega arith;
        found = ap (cut 10) whole ∙ cut_at 10 line (take k rest) at.lacks;
        feeds = ap feeds whole ∙ feeds_more line (take k rest) at.lacks;
      },
    ))
    (λ (inside : n ≤ length line).
    let part : take n bytes ≡ take n line = ap (take n) at.whole ∙ take-append-le n line (10 ∷ rest) inside in
    let lacks : Lacks 10 (take n line) = All-take (λ b. nat_eq b 10 ≡ false) n line at.lacks in
    inl (record {
      missing = ap (cut 10) part ∙ cut_nowhere 10 (take n line) lacks;
      feeds = ap feeds part ∙ no_feeds (take n line) lacks;
    }))
    (cases_lt (length line) n)

lines_refused : (cap m : ℕ) (tasks : List Task) (bytes : List ℕ) (n : ℕ) → lines_fault cap tasks m bytes ≡ None → n < length bytes → lines_fault cap tasks m (take n bytes) ≡ Some (BadLine (m + feeds (take n bytes)))
lines_refused cap m [] bytes n h low =
    let line = has_line m (end_fault m) bytes h in
    let nothing : length line.parts.1 ≡ 0 =
    eqb-true (length line.parts.1) 0 (passes (nat_eq (length line.parts.1) 0) (BadLine (m + 1)) (next_none (when (not (bytes_eq line.parts.0 (codes "end"))) (BadLine m)) (when (not (nat_eq (length line.parts.1) 0)) (BadLine (m + 1))) line.faultless)) in
    elim (prefix_of bytes line.parts.0 line.parts.1 n line.at low) [
      | inl ends ↦ let same : m ≡ m + feeds (take n bytes) = omega (arith, ends.feeds) in ap (in_line m (end_fault m)) ends.missing ∙ ap (λ (i : ℕ). Some (BadLine i)) same
      | inr past ↦ absurd (omega (arith, past.1.inside, nothing))
    ]
lines_refused cap m (task ∷ tasks) bytes n h low =
    let fault : List ℕ × List ℕ → Option CertFault = λ parts. or_else (line_fault cap task.name m parts.0) (lines_fault cap tasks (m + 1) parts.1) in
    let line = has_line m fault bytes h in
    let first : List ℕ = line.parts.0 in
    let rest : List ℕ = line.parts.1 in
    let fine : line_fault cap task.name m first ≡ None = first_none (line_fault cap task.name m first) (lines_fault cap tasks (m + 1) rest) line.faultless in
    let later : lines_fault cap tasks (m + 1) rest ≡ None = next_none (line_fault cap task.name m first) (lines_fault cap tasks (m + 1) rest) line.faultless in
    elim (prefix_of bytes first rest n line.at low) [
      | inl ends ↦ let same : m ≡ m + feeds (take n bytes) = omega (arith, ends.feeds) in ap (in_line m fault) ends.missing ∙ ap (λ (i : ℕ). Some (BadLine i)) same
      | inr past ↦
          let k : ℕ = past.0 in
          let same : m + 1 + feeds (take k rest) ≡ m + feeds (take n bytes) = omega (arith, past.1.feeds) in
          ap (in_line m fault) past.1.found ∙ ap (λ (o : Option CertFault). or_else o (lines_fault cap tasks (m + 1) (take k rest))) fine
          ∙ lines_refused cap (m + 1) tasks rest k later past.1.inside ∙ ap (λ (i : ℕ). Some (BadLine i)) same
    ]

short_enough : {X : Type 0} (n : ℕ) (x : X) → when (nat_lt CERT_LIMIT n) x ≡ None → n ≤ CERT_LIMIT
short_enough n x h = elim (cases_Bool (nat_lt CERT_LIMIT n)) [
  | inl long ↦ let no : Some x ≡ None = rw long at h in absurd (cc)
  | inr short ↦ ltb-false CERT_LIMIT n short
]

pub prefixes_are_refused : PrefixesAreRefused
prefixes_are_refused tasks cap bytes n h low =
    let fault : List ℕ × List ℕ → Option CertFault = title_fault tasks cap in
    let long : List ℕ → Option CertFault = λ bs. when (nat_lt CERT_LIMIT (length bs)) TooLong in
    let size : length bytes ≤ CERT_LIMIT = short_enough (length bytes) TooLong (first_none (long bytes) (in_line 1 fault (cut 10 bytes)) h) in
    let shorter : length (take n bytes) ≤ CERT_LIMIT = omega (arith, length-take n bytes) in
    let not_long : long (take n bytes) ≡ None = rw (le-ltb CERT_LIMIT (length (take n bytes)) shorter) refl in
    let line = has_line 1 fault bytes (next_none (long bytes) (in_line 1 fault (cut 10 bytes)) h) in
    let head : List ℕ = line.parts.0 in
    let rest : List ℕ = line.parts.1 in
    let first : Option CertFault = when (not (bytes_eq head title)) (BadLine 1) in
    let fine : first ≡ None = first_none first (lines_fault cap tasks 2 rest) line.faultless in
    let later : lines_fault cap tasks 2 rest ≡ None = next_none first (lines_fault cap tasks 2 rest) line.faultless in
    ap (λ (o : Option CertFault). or_else o (in_line 1 fault (cut 10 (take n bytes)))) not_long
    ∙ elim (prefix_of bytes head rest n line.at low) [
      | inl ends ↦ let same : 1 ≡ feeds (take n bytes) + 1 = omega (arith, ends.feeds) in ap (in_line 1 fault) ends.missing ∙ ap (λ (i : ℕ). Some (BadLine i)) same
      | inr past ↦
          let k : ℕ = past.0 in
          let same : 2 + feeds (take k rest) ≡ feeds (take n bytes) + 1 = omega (arith, past.1.feeds) in
          ap (in_line 1 fault) past.1.found ∙ ap (λ (o : Option CertFault). or_else o (lines_fault cap tasks 2 (take k rest))) fine
          ∙ lines_refused cap 2 tasks rest k later past.1.inside ∙ ap (λ (i : ℕ). Some (BadLine i)) same
    ]
