-- Worked words.
use Rattle.std.specs.Prelude.{◌≡◌, true, false, [], ◌∷◌, codes}
use Rattle.prta_words.specs.Words.{are_good, positional_words, flag_count}

pub record WorkedWords : Type 0 where
  pub one_name : are_good false 1 (codes "a" ∷ []) ≡ true
  pub two_names_for_one : are_good false 1 (codes "a" ∷ codes "b" ∷ []) ≡ false
  pub no_words : are_good false 1 [] ≡ false
  pub an_unknown_flag : are_good true 1 (codes "--fast" ∷ codes "a" ∷ []) ≡ false
  pub the_flag_after_the_name : are_good true 1 (codes "a" ∷ codes "--csv" ∷ []) ≡ true
  pub the_flag_counts : flag_count true (codes "a" ∷ codes "--csv" ∷ []) ≡ 1
  pub the_flag_is_no_name : positional_words true (codes "--csv" ∷ codes "a" ∷ []) ≡ codes "a" ∷ []
  pub the_flag_twice : are_good true 1 (codes "--csv" ∷ codes "a" ∷ codes "--csv" ∷ []) ≡ false
  pub the_flag_of_another_command : are_good false 1 (codes "--csv" ∷ codes "a" ∷ []) ≡ false
  pub after_the_dashes : are_good true 1 (codes "--" ∷ codes "-s.toml" ∷ []) ≡ true
  pub named_after_the_dashes : positional_words true (codes "--" ∷ codes "-s.toml" ∷ []) ≡ codes "-s.toml" ∷ []
  pub no_flag_after_the_dashes : flag_count true (codes "--" ∷ codes "--csv" ∷ []) ≡ 0
  pub one_dash : are_good false 1 (codes "-" ∷ []) ≡ true
  pub second_dashes : positional_words false (codes "--" ∷ codes "--" ∷ []) ≡ codes "--" ∷ []
