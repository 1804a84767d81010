-- Pieces that a sink takes one after the other.
use Rattle.std.proofs.Common.{◌≡◌, ℕ, ◌+◌, ◌-◌, ◌++◌, Option, Some, None, option_map, List, [], take, drop, length, refl, ap, sym, subst, ◌∙◌, append_assoc, append-nil, length-append, arith}
use Rattle.std.proofs.Math.Seq.{take-add, take-append-add}
use Rattle.std.proofs.lemmas.List.{take_all, length-drop, take-append-le}
use Rattle.prta_writer.specs.Writing.{Took, TookPart, TookAllBut}

-- the bytes of a text from a place on, as a slice of it
abbrev pub rest_from : List ℕ → ℕ → List ℕ
rest_from text k = take (length text - k) (drop k text)

-- the first bytes of a text, and some of those after them
pub took_more : (before mid now : Option (List ℕ)) (text : List ℕ) (k n : ℕ) → Took before mid (take k text) → Took mid now (take n (rest_from text k)) → Took before now (take (k + n) text)
took_more None mid now text k n first next = next ∙ ap (option_map (λ taken. taken ++ take n (rest_from text k))) first
took_more (Some old) mid now text k n first next =
    let all : rest_from text k ≡ drop k text = take_all (length text - k) (drop k text) (omega (arith, length-drop k text)) in
    let joined : take k text ++ take n (rest_from text k) ≡ take (k + n) text = ap (λ rest. take k text ++ take n rest) all ∙ sym (take-add k n text) in
    next ∙ ap (option_map (λ taken. taken ++ take n (rest_from text k))) first ∙ ap Some (append_assoc old (take k text) (take n (rest_from text k)) ∙ ap (λ more. old ++ more) joined)

pub length-rest_from : (text : List ℕ) (k : ℕ) → length (rest_from text k) ≡ length text - k
length-rest_from text k =
    let all : rest_from text k ≡ drop k text = take_all (length text - k) (drop k text) (omega (arith, length-drop k text)) in
    ap length all ∙ omega (arith, length-drop k text)

-- ---- a text whose end stands on a page

-- two texts, one after the other
took_both : (a b c : Option (List ℕ)) (t u : List ℕ) → Took a b t → Took b c u → Took a c (t ++ u)
took_both None b c t u first next = next ∙ ap (option_map (λ taken. taken ++ u)) first
took_both (Some old) b c t u first next = next ∙ ap (option_map (λ taken. taken ++ u)) first ∙ ap Some (append_assoc old t u)

took_none : (a : Option (List ℕ)) → Took a a []
took_none None = refl
took_none (Some old) = ap Some (sym (append-nil old))

-- nothing was put yet
pub page_alone : (a : Option (List ℕ)) (page : List ℕ) → TookAllBut a a page page
page_alone a page = record { put = []; took = took_none a; rest = refl }

-- the whole text was put
pub page_put : (a b : Option (List ℕ)) (text : List ℕ) → Took a b text → TookAllBut a b text []
page_put a b text t = record { put = text; took = t; rest = append-nil text }

-- more of the same text is put
pub more_put : (a b c : Option (List ℕ)) (t p q : List ℕ) → TookAllBut a b t p → TookAllBut b c p q → TookAllBut a c t q
more_put a b c t p q h k = record {
  put = h.put ++ k.put;
  took = took_both a b c h.put k.put h.took k.took;
  rest = append_assoc h.put k.put q ∙ ap (λ x. h.put ++ x) k.rest ∙ h.rest;
}

-- the text goes on, and so does its end on the page
pub longer : (a b : Option (List ℕ)) (t p more : List ℕ) → TookAllBut a b t p → TookAllBut a b (t ++ more) (p ++ more)
longer a b t p more h = record { put = h.put; took = h.took; rest = sym (append_assoc h.put p more) ∙ ap (λ x. x ++ more) h.rest }

-- the rest of the text is put
pub put_whole : (a b c : Option (List ℕ)) (t p : List ℕ) → TookAllBut a b t p → Took b c p → Took a c t
put_whole a b c t p h k = subst (λ x. Took a c x) h.rest (took_both a b c h.put p h.took k)

-- a part of a longer text
pub part_of_more : (a b : Option (List ℕ)) (t u : List ℕ) → TookPart a b t → TookPart a b (t ++ u)
part_of_more a b t u h = (
  h.0,
  omega (arith, h.1, length-append t u),
  h.2 ∙ ap (λ x. option_map (λ taken. taken ++ x) a) (sym (take-append-le h.0 t u h.1)),
)

-- where the page fails, a part of the text was put
pub part_then : (a b c : Option (List ℕ)) (t p : List ℕ) → TookAllBut a b t p → TookPart b c p → TookPart a c t
part_then a b c t p h k = (
  length h.put + k.0,
  omega (arith, ap length h.rest, length-append h.put p, k.1),
  took_both a b c h.put (take k.0 p) h.took k.2 ∙ ap (λ x. option_map (λ taken. taken ++ x) a) (sym (take-append-add h.put p k.0) ∙ ap (take (length h.put + k.0)) h.rest),
)

-- ---- texts that go on

module _ (a b c : Option (List ℕ)) (start text page : List ℕ) (so_far : TookAllBut a b (start ++ text) page) where
  -- more was written
  pub then_written : (more now : List ℕ) → TookAllBut b c (page ++ more) now → TookAllBut a c (start ++ (text ++ more)) now
  then_written more now k = subst (λ t. TookAllBut a c t now) (append_assoc start text more) (more_put a b c _ (page ++ more) now (longer a b (start ++ text) page more so_far) k)

  -- or a part of it
  pub then_part : (more : List ℕ) → TookPart b c (page ++ more) → TookPart a c (start ++ (text ++ more))
  then_part more k = subst (λ t. TookPart a c t) (append_assoc start text more) (part_then a b c _ (page ++ more) (longer a b (start ++ text) page more so_far) k)

-- room was made, and then a line was pushed
pub line_written : (b c : Option (List ℕ)) (page made now line : List ℕ) → TookAllBut b c page made → now ≡ made ++ line → TookAllBut b c (page ++ line) now
line_written b c page made now line k e = subst (λ t. TookAllBut b c (page ++ line) t) (sym e) (longer b c page made line k)
