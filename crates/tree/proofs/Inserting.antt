-- A word, letter by letter, and then its number.
use mathlib.Core.Path.{◌≡◌, refl, sym, ap, ◌∙◌, subst}
use mathlib.Core.Logic.{◌≢◌}
use mathlib.Core.Option.{none, some}
use mathlib.Core.List.{List, [], ◌∷◌}
use Prim.Native.Nat.{ℕ, suc, ◌+◌, ◌*◌, ◌≤◌, ◌<◌}
use native.Mathlib.Decide.{ℕ_discrete}
use native.Mathlib.Numerals.{add-one}
use native.Mathlib.Omega.{arith}
use lib.ListN.{length, get_or, take, drop, take-append-drop, length-take, length-set}
use lib.Seq.{take-suc, take_all}
use Rattle.meaning.specs.Numbers.{most_words, absent}
use Rattle.meaning.specs.Words.{Word, Words, snoc, find, word}
use Rattle.meaning.specs.Automaton.{prefixes, add, add_all}
use Rattle.meaning.specs.Table.{stored, last_letter, first_child, next_sibling, width, letter_field, child_field, sibling_field, depth_field, word_field, border_field, link_field, chain_field}
use Rattle.meaning.proofs.Lists.{snoc-length}
use Rattle.meaning.proofs.Find.{none_or_some, FirstAt, find_some, find_new, find_other}
use Rattle.meaning.proofs.States.{extends_length, add_extends, add_all-append, add_all_extends, prefixes_snoc, prefixes-append}
use Rattle.tree.specs.Layout.{field_at, set_field, HasRow}
use Rattle.tree.specs.Tree.{Column}
use Rattle.tree.specs.declared.index.ChildIndex.{ChildIndex}
use Rattle.tree.specs.Insertion.{Growing, Open, Reaching, Insertable, Inserted}
use Rattle.tree.proofs.Walk.{state_row}
use Rattle.tree.proofs.Cells.{set_here, set_other_field, set_other_row, set_past}

-- the states with the prefixes of the first i letters
abbrev pub states_to : Words → Word → ℕ → Words
states_to S w i = add_all S (prefixes [] (take i w))

next_prefix : (S : Words) (w : Word) (i : ℕ) → i < length w
    → add (states_to S w i) (snoc (take i w) (get_or w i 0)) ≡ states_to S w (suc i)
next_prefix S w i h =
    sym
    (ap (λ (u : Word). add_all S (prefixes [] u)) (take-suc w i 0 h)
    ∙ ap (add_all S) (prefixes_snoc [] (take i w) (get_or w i 0))
    ∙ add_all-append S (prefixes [] (take i w)) (snoc (take i w) (get_or w i 0) ∷ []))

within : (S : Words) (w : Word) (i : ℕ) → length (states_to S w i) ≤ length (add_all S (prefixes [] w))
within S w i =
    let e : add_all S (prefixes [] w) ≡ add_all (states_to S w i) (prefixes (take i w) (drop i w)) =
    ap (λ (u : Word). add_all S (prefixes [] u)) (sym (take-append-drop i w))
    ∙ ap (add_all S) (prefixes-append [] (take i w) (drop i w))
    ∙ add_all-append S (prefixes [] (take i w)) (prefixes (take i w) (drop i w)) in
    rw e (extends_length (add_all_extends (states_to S w i) (prefixes (take i w) (drop i w))))

-- the table t has the first i letters of w, as the state p of n states; past the rows it is t₀
pub record Partly (X S : Words) (w : Word) (i : ℕ) (t₀ t : List ℕ) (index : ChildIndex) (p n : ℕ) : Type 0 where
  pub growing : Growing X (states_to S w i) t index n
  pub here : find (states_to S w i) (take i w) ≡ some p
  pub past : (j : ℕ) → width * n ≤ j → get_or t j 0 ≡ get_or t₀ j 0

-- the number k of the word w, which is the state p
module _ {X S : Words} {t : List ℕ} {index : ChildIndex} {n : ℕ} (γ : Growing X S t index n) (w : Word) {p k : ℕ} (here : find S w ≡ some p)
    (new : find X w ≡ none) (nonempty : 1 ≤ length w) (number : k ≡ length X) (few : k < most_words) where
  kept : (j : ℕ) (f : Word → ℕ) → (j < width) × (j ≢ word_field) → Column S t j f → Column S (set_field t p word_field k) j f
  kept j f h c s l = set_other_field t p word_field k s j (omega arith) h.0 h.1 ∙ c s l

  numbers : Column S (set_field t p word_field k) word_field (λ u. stored (find (snoc X w) u))
  numbers s l = go (ℕ_discrete s p)
    where
      go : Dec (s ≡ p) → field_at (set_field t p word_field k) s word_field ≡ stored (find (snoc X w) (word S s))
      go (yes e) =
          let f = find_some S w p here in
          rw e
          (set_here t p word_field k (omega arith) (state_row γ.tree f.inside)
          ∙ number
          ∙ ap stored (sym (ap (find (snoc X w)) f.reads ∙ find_new X w new)))
      go (no d) =
          set_other_row t p word_field k s word_field (omega arith) (omega arith) d
          ∙ γ.tree.numbers s l
          ∙ ap stored (sym (find_other X w (word S s) (λ e. d (cc (γ.tree.states.trie.once s l)))))

  numbered : Growing (snoc X w) S (set_field t p word_field k) index n
  numbered = record {
    tree = record {
      states = γ.tree.states;
      words = record {
        nonempty = find_other X w [] (λ e. omega (arith, ap length e)) ∙ γ.tree.words.nonempty;
        within = λ u f. find_other X w u (λ e. none_or_some (rw (← e) at f) here) ∙ γ.tree.words.within u f;
        few = omega (arith, snoc-length X w);
      };
      room = omega (arith, length-set t (width * p + word_field) k, γ.tree.room);
      letters = kept letter_field (λ u. stored (last_letter u)) (omega arith) γ.tree.letters;
      children = kept child_field (λ u. stored (first_child S u)) (omega arith) γ.tree.children;
      siblings = kept sibling_field (λ u. stored (next_sibling S u)) (omega arith) γ.tree.siblings;
      depths = kept depth_field length (omega arith) γ.tree.depths;
      numbers = numbers;
    };
    blank = record {
      borders = kept border_field (λ u. absent) (omega arith) γ.blank.borders;
      links = kept link_field (λ u. absent) (omega arith) γ.blank.links;
      chains = kept chain_field (λ u. 0) (omega arith) γ.blank.chains;
    };
    indexed = γ.indexed;
    count = γ.count;
  }

module _ {X S : Words} {t₀ : List ℕ} {index₀ : ChildIndex} {n₀ k : ℕ} {w : Word} (γ : Insertable X S t₀ index₀ n₀ w k) where
  pub start : Partly X S w 0 t₀ t₀ index₀ 0 n₀
  start = record { growing = γ.growing; here = γ.growing.tree.states.trie.root; past = λ j l. refl }

  module _ {i : ℕ} {t : List ℕ} {index : ChildIndex} {p n : ℕ} (φ : Partly X S w i t₀ t index p n) where
    at : FirstAt (states_to S w i) (take i w) p
    at = find_some (states_to S w i) (take i w) p φ.here

    -- the next letter
    module _ (more : i < length w) (same : length t ≡ length t₀) {a : ℕ} (letter : a ≡ get_or w i 0) where
      reads : snoc (word (states_to S w i) p) a ≡ snoc (take i w) (get_or w i 0)
      reads = rw (letter, at.reads)

      grows : add (states_to S w i) (snoc (word (states_to S w i) p) a) ≡ states_to S w (suc i)
      grows = ap (add (states_to S w i)) reads ∙ next_prefix S w i more

      pub opens : Open X (states_to S w i) t index n p a (i + 1)
      opens = record {
        growing = φ.growing;
        inside = at.inside;
        byte = rw letter (γ.bytes i more);
        depth = omega (arith, ap length at.reads, length-take i w);
        short = omega (arith, γ.short);
        room = omega (arith, ap length grows, within S w (suc i), γ.room);
        few = omega (arith, ap length grows, within S w (suc i), γ.few);
      }

      rows : {t' : List ℕ} {index' : ChildIndex} {p' n' : ℕ} → Reaching X (states_to S w i) (word (states_to S w i) p) a t t' index' p' n' → n ≤ n'
      rows r =
          let more-states = extends_length (add_extends (states_to S w i) (snoc (word (states_to S w i) p) a)) in
          omega (arith, r.growing.count, φ.growing.count)

      pub reaches : {t' : List ℕ} {index' : ChildIndex} {p' n' : ℕ} → Reaching X (states_to S w i) (word (states_to S w i) p) a t t' index' p' n'
          → Partly X S w (i + 1) t₀ t' index' p' n'
      reaches {t'} {index'} {p'} {n'} r =
          rw add-one
          (record {
            growing = subst (λ (Y : Words). Growing X Y t' index' n') grows r.growing;
            here =
                ap (find (states_to S w (suc i))) (take-suc w i 0 more ∙ sym reads)
                ∙ subst (λ (Y : Words). find Y (snoc (word (states_to S w i) p) a) ≡ some p') grows r.here;
            past = λ j l. r.past j l ∙ φ.past j (omega (arith, rows r));
          })

    -- after the last letter
    pub partly_row : HasRow t p
    partly_row = state_row φ.growing.tree at.inside

    pub inserted : length w ≤ i → {t' : List ℕ} → t' ≡ set_field t p word_field k → Inserted X S w t₀ t' index n
    inserted h e =
        let all : take i w ≡ w = take_all i w h in
        rw e
        (record {
          growing =
              numbered (subst (λ (u : Word). Growing X (add_all S (prefixes [] u)) t index n) all φ.growing) w
              (subst (λ (u : Word). find (add_all S (prefixes [] u)) u ≡ some p) all φ.here)
              γ.new γ.nonempty γ.number γ.words;
          past = λ j l.
              set_past t p word_field k n j (omega arith)
              (omega (arith, at.inside, φ.growing.count)) l
              ∙ φ.past j l;
        })
