-- A command whose walk is told by a few stands: `clap` refuses the words that are not good, and no others.
use Rattle.std.proofs.Common.{◌≡◌, ◌<◌, ◌≤◌, ◌+◌, ◌∷◌, ◌++◌, ◌∙◌, ◌⊎◌, inl, inr, ℕ, Bool, true, false, List, [], length, Option, Some, None, refl, sym, ap, ap₂, arith, codes, append_assoc, true≢false}
use Rattle.std.specs.Prelude.{if◌then◌else◌, ◌==◌, not, fold, IsUtf8, All, MatchBool, MatchOption, bytes_eq, count_by, nat_le}
use Rattle.std.specs.List.{list_any}
use Rattle.std.proofs.lemmas.Bool.{eqb-true, and_left, and_parts, and_right, ne_eqb, le-leb, lt-leb}
use Rattle.std.proofs.lemmas.List.{append-nil, length-append}
use Rattle.std.proofs.lemmas.List.Sums.{sum_by-cons}
use Rattle.std.proofs.lemmas.List.Elements.{All-head, All-tail}
use Rattle.clap.specs.Lexer.{name_and_value}
use Rattle.clap.specs.Walk.{Held, Text, Walk, arg_by_index, arg_by_long, arg_by_short, finished, nothing_held, rows_after, settled, to_positional, value, walk, walk_from, walked}
use Rattle.clap.specs.Simple.{Shape}
use Rattle.clap.specs.Kinds.{Kinds, or_else}
use Rattle.clap.specs.Faults.{check_fault, defaults_fault, level_fault, long_fault, settle_fault, step_fault, turn_fault, walk_fault}
use Rattle.prta_words.proofs.Looks.{Looks, dashes, long, short, after-dash, flag-dashed, looks, plain-word}
use Rattle.prta_words.proofs.Walks.{Goes, IsFault, IsValue, Turns, dashes-turn, fault-as, fault-first, goes-more, goes-none, long-stops, short-stops, stand, stops-here, stops-later, value-fault, value-walked}
use Rattle.prta_words.specs.Words.{are_good, before_dashes, begins_with_dash, flag_count, is_bad, is_double_dash, is_flag, positional_words}

-- what comes after the walk
abbrev pub after_walk : Shape → Held → Kinds
after_walk s h = or_else [] (or_else (settle_fault s.rules s.args_override_self h)
    (or_else (defaults_fault (settled s.rules h).rows s.rules) (check_fault s (finished s.rules h) false)))

-- what a positional word, the flag and the end of the words come to at a stand
module _ {X : Type 0} (s : Shape) (n : ℕ) (held : X → Held) (position : X → ℕ) (words : X → List Text) (flags : X → ℕ) where
  abbrev pub PutIs : X → Bool → Text → Option X → Type 0
  PutIs x t word o = MatchOption o
      (IsFault (step_fault s (position x) (held x) value) × (length (words x) ≡ n))
      (λ y. (step_fault s (position x) (held x) value ≡ [])
      × (to_positional s.rules (arg_by_index s.rules (position x)) word (stand (held x) (position x) t) (held x) ≡ stand (held y) (position y) t)
      × (words y ≡ words x ++ word ∷ []) × (flags y ≡ flags x))

module _ {X : Type 0} (s : Shape) (held : X → Held) (position : X → ℕ) (words : X → List Text) (flags : X → ℕ) where
  abbrev pub FlagIs : X → Option X → Type 0
  FlagIs x o = MatchOption o
      (IsFault (turn_fault s [] (stand (held x) (position x) false) (codes "--csv")) × (flags x ≡ 1))
      (λ y. Turns s (stand (held x) (position x) false) (codes "--csv") (stand (held y) (position y) false)
      × (words y ≡ words x) × (flags y ≡ flags x + 1))

abbrev pub EndIs : {X : Type 0} → Shape → ℕ → (X → Held) → (X → List Text) → X → Type 0
EndIs s n held words x = MatchBool (length (words x) == n) (after_walk s (held x) ≡ []) (IsFault (after_walk s (held x)))

-- what is held at a stand, and where; the stand after one more positional word or flag, if that may come; and what
-- a stand says of the words before it
pub record Machine (X : Type 0) (s : Shape) (has_csv : Bool) (n : ℕ) : Type 0 where
  pub held : X → Held
  pub position : X → ℕ
  pub words : X → List Text
  pub flags : X → ℕ
  pub put : X → Text → Option X
  pub flag : X → Option X
  pub skips : (x : X) → (held x).skip ≡ 0
  pub fits : (x : X) → length (words x) ≤ n
  pub once : (x : X) → flags x ≤ 1
  pub shorts : (c : ℕ) → arg_by_short s.rules c ≡ None
  pub longs : (x : X) (rest : Text) → is_flag has_csv (45 ∷ 45 ∷ rest) ≡ false
      → IsFault (long_fault s.rules s.args_override_self (arg_by_long s.rules (name_and_value rest).0) (name_and_value rest).1 (held x))
  pub puts : (x : X) (t : Bool) (word : Text) → PutIs s n held position words flags x t word (put x word)
  pub flagged : has_csv ≡ true → (x : X) → FlagIs s held position words flags x (flag x)
  pub start : X
  pub begins : walk_from nothing_held ≡ stand (held start) (position start) false
  pub no_words : words start ≡ []
  pub no_flags : flags start ≡ 0
  pub ends : (x : X) → EndIs s n held words x

-- the positional words, the flags and whether one is bad, of the words that are left, before or after `--`
abbrev rest_words : Bool → Bool → List Text → List Text
rest_words has_csv true words = words
rest_words has_csv false words = positional_words has_csv words

abbrev rest_flags : Bool → Bool → List Text → ℕ
rest_flags has_csv true words = 0
rest_flags has_csv false words = flag_count has_csv words

abbrev rest_bad : Bool → Bool → List Text → Bool
rest_bad has_csv true words = false
rest_bad has_csv false words = list_any (is_bad has_csv) (before_dashes words)

flags-cons : (has_csv : Bool) (word : Text) (rest : List Text) → is_double_dash word ≡ false
    → flag_count has_csv (word ∷ rest) ≡ (if is_flag has_csv word then 1 else 0) + flag_count has_csv rest
flags-cons has_csv word rest single =
    let before : before_dashes (word ∷ rest) ≡ word ∷ before_dashes rest = rw single refl in
    ap (count_by (is_flag has_csv)) before ∙ sum_by-cons (λ w. if is_flag has_csv w then 1 else 0) word (before_dashes rest)

is_csv : {has_csv : Bool} → has_csv ≡ true → is_flag has_csv (codes "--csv") ≡ true
is_csv has = rw has refl

flags-one : (has_csv : Bool) (rest : List Text) → has_csv ≡ true → flag_count has_csv (codes "--csv" ∷ rest) ≡ 1 + flag_count has_csv rest
flags-one has_csv rest has =
    flags-cons has_csv (codes "--csv") rest refl ∙ ap (λ b. (if b then 1 else 0) + flag_count has_csv rest) (is_csv has)

-- a word that begins with no dash is no flag
no-flag : (has_csv : Bool) (word : Text) → begins_with_dash word ≡ false → is_flag has_csv word ≡ false
no-flag has_csv word plain = by (is_flag has_csv word) refl
  where
    by : (b : Bool) → is_flag has_csv word ≡ b → b ≡ false
    by true e =
        let is = flag-dashed word (and_parts has_csv (bytes_eq word (codes "--csv")) e).1 in
        absurd (true≢false (rw is at plain))
    by false e = refl

module _ {X : Type 0} {s : Shape} {has_csv : Bool} {n : ℕ} (m : Machine X s has_csv n) where
  abbrev at : X → Bool → Walk
  at x t = stand (m.held x) (m.position x) t

  -- the words that are left cannot be good after those before the stand
  abbrev Unfit : X → Bool → List Text → Type 0
  Unfit x t words = (rest_bad has_csv t words ≡ true) ⊎ (1 < m.flags x + rest_flags has_csv t words)
      ⊎ (n < length (m.words x) + length (rest_words has_csv t words))

  pub record Done (x : X) (t : Bool) (words : List Text) : Type 0 where
    pub last : X
    pub is_trailing : Bool
    pub goes : Goes s (at x t) words (at last is_trailing)
    pub read : m.words last ≡ m.words x ++ rest_words has_csv t words
    pub flags : m.flags last ≡ m.flags x + rest_flags has_csv t words
    pub clean : rest_bad has_csv t words ≡ false

  abbrev Reads : X → Bool → List Text → Type 0
  Reads x t words = (IsFault (walk_fault s [] (at x t) words) × Unfit x t words) ⊎ Done x t words

  -- `--` alone
  dashes-case : (x : X) (word : Text) (rest : List Text) → word ≡ codes "--" → Reads x true rest → Reads x false (word ∷ rest)
  dashes-case x word rest is (inl f) = rw is (inl (stops-later s (at x false) (at x true) (codes "--") rest (dashes-turn s (m.held x) (m.position x)) f.0, f.1))
  dashes-case x word rest is (inr d) = rw is (inr (record {
    last = d.last;
    is_trailing = d.is_trailing;
    goes = goes-more s (at x false) (at x true) (at d.last d.is_trailing) (codes "--") rest (dashes-turn s (m.held x) (m.position x)) d.goes;
    read = d.read;
    flags = d.flags;
    clean = d.clean;
  }))

  -- a word that is positional
  abbrev Puts : X → Bool → Text → Option X → Type 0
  Puts x t word o = PutIs s n m.held m.position m.words m.flags x t word o

  put-case : (x : X) (t : Bool) (word : Text) (rest : List Text) (o : Option X) → IsValue t word
      → rest_words has_csv t (word ∷ rest) ≡ word ∷ rest_words has_csv t rest → rest_flags has_csv t (word ∷ rest) ≡ rest_flags has_csv t rest
      → rest_bad has_csv t (word ∷ rest) ≡ rest_bad has_csv t rest
      → Puts x t word o → ((y : X) → Reads y t rest) → Reads x t (word ∷ rest)
  put-case x t word rest None v ws fs bad p more = inl (
    stops-here s (at x t) word rest (fault-as _ _ (value-fault s (m.held x) (m.position x) t word v) p.0),
    inr (inr (rw ws (omega (arith, p.1)))),
  )
  put-case x t word rest (Some y) v ws fs bad p more = go (more y)
    where
      turns : Turns s (at x t) word (at y t)
      turns = (value-fault s (m.held x) (m.position x) t word v ∙ p.0, value-walked s (m.held x) (m.position x) t word v ∙ p.1)

      longer : length (m.words y) ≡ length (m.words x) + 1
      longer = ap length p.2 ∙ length-append (m.words x) (word ∷ [])

      unfit : Unfit y t rest → Unfit x t (word ∷ rest)
      unfit (inl h) = inl (bad ∙ h)
      unfit (inr (inl h)) = inr (inl (rw fs (omega (arith, p.3, h))))
      unfit (inr (inr h)) = inr (inr (rw ws (omega (arith, longer, h))))

      go : Reads y t rest → Reads x t (word ∷ rest)
      go (inl f) = inl (stops-later s (at x t) (at y t) word rest turns f.0, unfit f.1)
      go (inr d) = inr (record {
        last = d.last;
        is_trailing = d.is_trailing;
        goes = goes-more s (at x t) (at y t) (at d.last d.is_trailing) word rest turns d.goes;
        read = d.read ∙ ap (λ xs. xs ++ rest_words has_csv t rest) p.2 ∙ append_assoc (m.words x) (word ∷ []) (rest_words has_csv t rest)
            ∙ sym (ap (λ xs. m.words x ++ xs) ws);
        flags = d.flags ∙ ap₂ (λ a b. a + b) p.3 (sym fs);
        clean = bad ∙ d.clean;
      })

  -- the flag
  abbrev Flags : X → Option X → Type 0
  Flags x o = FlagIs s m.held m.position m.words m.flags x o

  flag-case : (x : X) (rest : List Text) (o : Option X) → has_csv ≡ true → Flags x o → ((y : X) → Reads y false rest) → Reads x false (codes "--csv" ∷ rest)
  flag-case x rest None has p more = inl (
    stops-here s (at x false) (codes "--csv") rest p.0,
    inr (inl (let e = flags-one has_csv rest has in omega (arith, p.1, e))),
  )
  flag-case x rest (Some y) has p more = go (more y)
    where
      bad : rest_bad has_csv false (codes "--csv" ∷ rest) ≡ rest_bad has_csv false rest
      bad = rw (is_csv has) refl

      ws : rest_words has_csv false (codes "--csv" ∷ rest) ≡ rest_words has_csv false rest
      ws = rw (is_csv has) refl

      fs : rest_flags has_csv false (codes "--csv" ∷ rest) ≡ 1 + rest_flags has_csv false rest
      fs = flags-one has_csv rest has

      unfit : Unfit y false rest → Unfit x false (codes "--csv" ∷ rest)
      unfit (inl h) = inl (bad ∙ h)
      unfit (inr (inl h)) = inr (inl (rw fs (omega (arith, p.2, h))))
      unfit (inr (inr h)) = inr (inr (rw ws (omega (arith, ap length p.1, h))))

      go : Reads y false rest → Reads x false (codes "--csv" ∷ rest)
      go (inl f) = inl (stops-later s (at x false) (at y false) (codes "--csv") rest p.0 f.0, unfit f.1)
      go (inr d) = inr (record {
        last = d.last;
        is_trailing = d.is_trailing;
        goes = goes-more s (at x false) (at y false) (at d.last d.is_trailing) (codes "--csv") rest p.0 d.goes;
        read = d.read ∙ ap (λ xs. xs ++ rest_words has_csv false rest) p.1 ∙ sym (ap (λ xs. m.words x ++ xs) ws);
        flags = let e = d.flags in omega (arith, p.2, fs, e);
        clean = bad ∙ d.clean;
      })

  -- a word that begins with a dash and is no flag
  bad-case : (x : X) (word : Text) (rest : List Text) → is_double_dash word ≡ false → begins_with_dash word ≡ true → is_flag has_csv word ≡ false
      → IsFault (turn_fault s [] (at x false) word) → Reads x false (word ∷ rest)
  bad-case x word rest single dash other f = inl (
    stops-here s (at x false) word rest f,
    inl (rw (single, dash, other) refl),
  )

  dash-case : (x : X) (word : Text) (rest : List Text) → IsUtf8 word → begins_with_dash word ≡ true → is_flag has_csv word ≡ false
      → Looks word → Reads x true rest → Reads x false (word ∷ rest)
  dash-case x word rest u dash other (dashes is) more = dashes-case x word rest is more
  dash-case x word rest u dash other (long tail is looks single) more = bad-case x word rest single dash other
      (long-stops s (m.held x) (m.position x) word tail single looks (m.longs x tail (rw is at other)))
  dash-case x word rest u dash other (short y tail is no_long looks single) more = bad-case x word rest single dash other
      (short-stops s (m.held x) (m.position x) word tail y m.shorts (m.skips x) (after-dash (y ∷ tail) (rw is at u)) single no_long looks)

  plain-case : (x : X) (word : Text) (rest : List Text) → begins_with_dash word ≡ false → ((y : X) → Reads y false rest) → Reads x false (word ∷ rest)
  plain-case x word rest plain more =
      let looks = plain-word word plain in
      let single = looks.no_dashes in
      let other = no-flag has_csv word plain in
      let fs = rw other at (flags-cons has_csv word rest single) in
      put-case x false word rest (m.put x word) (λ _. looks) (rw (single, other) refl) (omega (arith, fs)) (rw (single, plain) refl) (m.puts x false word) more

  pub reads : (words : List Text) (x : X) (t : Bool) → All IsUtf8 words → Reads x t words
  reads [] x t u = inr (record {
    last = x;
    is_trailing = t;
    goes = goes-none s (at x t);
    read = by t;
    flags = none t;
    clean = clean t;
  })
    where
      by : (t : Bool) → m.words x ≡ m.words x ++ rest_words has_csv t []
      by true = sym (append-nil (m.words x))
      by false = sym (append-nil (m.words x))

      none : (t : Bool) → m.flags x ≡ m.flags x + rest_flags has_csv t []
      none true = omega arith
      none false = omega arith

      clean : (t : Bool) → rest_bad has_csv t [] ≡ false
      clean true = refl
      clean false = refl
  reads (word ∷ rest) x true u =
      put-case x true word rest (m.put x word) (λ e. absurd (true≢false e)) refl refl refl (m.puts x true word) (λ y. reads rest y true (All-tail IsUtf8 word rest u))
  reads (word ∷ rest) x false u =
      by (λ y t. reads rest y t (All-tail IsUtf8 word rest u)) (begins_with_dash word) refl (is_flag has_csv word) refl
    where
      by : ((y : X) (t : Bool) → Reads y t rest) → (dash : Bool) → begins_with_dash word ≡ dash → (flag : Bool) → is_flag has_csv word ≡ flag → Reads x false (word ∷ rest)
      by more false d flag f = plain-case x word rest d (λ y. more y false)
      by more true d true f =
          let parts = and_parts has_csv (bytes_eq word (codes "--csv")) f in
          rw (flag-dashed word parts.1) (flag-case x rest (m.flag x) parts.0 (m.flagged parts.0 x) (λ y. more y false))
      by more true d false f = dash-case x word rest (All-head IsUtf8 word rest u) d f (looks word d) (more x true)

  -- the words are not good, and `clap` refuses them
  pub record Refuses (words : List Text) : Type 0 where
    pub not_good : are_good has_csv n words ≡ false
    pub fault : IsFault (level_fault s [] nothing_held words false [])

  -- the words are good, and `clap` reads them
  pub record Takes (words : List Text) : Type 0 where
    pub good : are_good has_csv n words ≡ true
    pub no_fault : level_fault s [] nothing_held words false [] ≡ []
    pub last : X
    pub full : length (m.words last) ≡ n
    pub read : positional_words has_csv words ≡ m.words last
    pub flagged : flag_count has_csv words ≡ m.flags last
    pub rows : rows_after s.rules [] words ≡ finished s.rules (m.held last)

  not_good : (words : List Text) → Unfit m.start false words → are_good has_csv n words ≡ false
  not_good words (inl bad) = rw bad refl
  not_good words (inr (inl h)) =
      let many : nat_le (flag_count has_csv words) 1 ≡ false = lt-leb (flag_count has_csv words) 1 (omega (arith, m.no_flags, h)) in
      and_right (not (list_any (is_bad has_csv) (before_dashes words))) _ (and_left _ (length (positional_words has_csv words) == n) many)
  not_good words (inr (inr h)) =
      let none = ap length m.no_words in
      let more : (length (positional_words has_csv words) == n) ≡ false = ne_eqb (length (positional_words has_csv words)) n (λ e. omega (arith, none, h)) in
      and_right (not (list_any (is_bad has_csv) (before_dashes words))) _ (and_right (nat_le (flag_count has_csv words) 1) _ more)

  -- the walk over the words, once it has passed
  module _ (words : List Text) (d : Done m.start false words) where
    end_held : (walk s.rules [] nothing_held words).held ≡ m.held d.last
    end_held = ap (λ w. (fold (walked s.rules []) w words).held) m.begins ∙ ap (λ (w : Walk). w.held) d.goes.1

    walk_passed : walk_fault s [] (walk_from nothing_held) words ≡ []
    walk_passed = ap (λ w. walk_fault s [] w words) m.begins ∙ d.goes.0

    level_is : level_fault s [] nothing_held words false [] ≡ after_walk s (m.held d.last)
    level_is = ap (λ k. or_else k (after_walk s (walk s.rules [] nothing_held words).held)) walk_passed ∙ ap (after_walk s) end_held

    read_all : positional_words has_csv words ≡ m.words d.last
    read_all = sym (d.read ∙ ap (λ xs. xs ++ positional_words has_csv words) m.no_words)

    flags_all : flag_count has_csv words ≡ m.flags d.last
    flags_all = let e = d.flags in omega (arith, e, m.no_flags)

    good_as : (b : Bool) → (length (m.words d.last) == n) ≡ b → are_good has_csv n words ≡ b
    good_as b e =
        let once : nat_le (flag_count has_csv words) 1 ≡ true = le-leb (flag_count has_csv words) 1 (rw flags_all (m.once d.last)) in
        let count : (length (positional_words has_csv words) == n) ≡ b = ap (λ xs. length xs == n) read_all ∙ e in
        rw (d.clean, once, count) refl

    judged : (b : Bool) → (length (m.words d.last) == n) ≡ b → MatchBool b (after_walk s (m.held d.last) ≡ []) (IsFault (after_walk s (m.held d.last)))
        → Refuses words ⊎ Takes words
    judged true e none = inr (record {
      good = good_as true e;
      no_fault = level_is ∙ none;
      last = d.last;
      full = eqb-true (length (m.words d.last)) n e;
      read = read_all;
      flagged = flags_all;
      rows = ap (finished s.rules) end_held;
    })
    judged false e f = inl (record { not_good = good_as false e; fault = fault-as _ _ level_is f })

  pub verdict : (words : List Text) → All IsUtf8 words → Refuses words ⊎ Takes words
  verdict words u = by (reads words m.start false u)
    where
      by : Reads m.start false words → Refuses words ⊎ Takes words
      by (inl f) = inl (record {
        not_good = not_good words f.1;
        fault = fault-first (walk_fault s [] (walk_from nothing_held) words) _ (fault-as _ _ (ap (λ w. walk_fault s [] w words) m.begins) f.0);
      })
      by (inr d) = judged words d (length (m.words d.last) == n) refl (m.ends d.last)
