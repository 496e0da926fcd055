-- The words of a dictionary put into the tree, record by record.
use mathlib.Core.Path.{◌≡◌, refl, sym, ap, ◌∙◌, subst}
use mathlib.Core.Option.{none}
use mathlib.Core.List.{List, [], ◌∷◌}
use Prim.Native.Nat.{ℕ, zero, suc, ◌+◌, ◌*◌, ◌-◌, ◌≤◌, ◌<◌}
use native.Mathlib.Numerals.{add-one}
use native.Mathlib.Omega.{arith}
use lib.ListN.{length, get_or, take, drop, take-append-drop}
use lib.Seq.{sets, length-sets, length-take-le, take-suc, get_or-take, take_all}
use Rattle.meaning.specs.Numbers.{most_states, absent}
use Rattle.meaning.specs.Words.{Word, Words, snoc, find, word, total}
use Rattle.meaning.specs.Automaton.{prefixes, add_all, states}
use Rattle.meaning.specs.Table.{stored, first_child, last_letter, next_sibling, width}
use Rattle.meaning.specs.Plain.{Allowed}
use Rattle.meaning.proofs.Find.{none_unless, find_some}
use Rattle.meaning.proofs.States.{extends_length, add_all_extends, states-length, states_snoc, total-append, allowed_bounded, allowed_words}
use Rattle.meaning.proofs.Children.{child_from_no}
use Rattle.letters.specs.Letters.{mapped, part}
use Rattle.letters.specs.Record.{record_at, word_len}
use Rattle.records.specs.Stored.{place, Holds}
use Rattle.records.proofs.Accepted.{accepted, word_stands, place_next}
use Rattle.tree.specs.Layout.{field_at, HasRow, new_row}
use Rattle.tree.specs.Tree.{Column}
use Rattle.tree.specs.declared.index.ChildIndex.{ChildIndex}
use Rattle.tree.specs.Index.{Vacant}
use Rattle.tree.specs.Insertion.{Growing, Insertable, Inserted}
use Rattle.automaton.specs.Building.{Accepted, Planted}
use Rattle.tree.proofs.Cells.{row_here, row_past}
use Rattle.tree.proofs.Blocks.{no_owners}
use Rattle.tree.proofs.Climb.{root_inside}

-- the empty dictionary
no_words : Allowed []
no_words = record {
  storable = record {
    dictionary = record { nonempty = λ n l. absurd (omega arith); distinct = λ i j a b e. absurd (omega arith) };
    short = λ n l. absurd (omega arith);
    few = omega arith;
    small = omega arith;
  };
  letters = λ n l. absurd (omega arith);
}

-- the root's row alone
root_column : (t : List ℕ) (j : ℕ) (f : Word → ℕ) → field_at t 0 j ≡ f [] → Column ([] ∷ []) t j f
root_column t j f e zero l = e
root_column t j f e (suc s) l = absurd (omega arith)

pub rooted : (t : List ℕ) {t' : List ℕ} {index : ChildIndex} → HasRow t 0 → t' ≡ sets t (width * 0) (new_row absent absent 0)
    → Vacant index → Growing [] (states []) t' index 1
rooted t {t'} {index} room e empty = record {
  tree = record {
    states = allowed_bounded [] no_words;
    words = allowed_words [] no_words;
    room = omega (arith, ap length e, length-sets t (width * 0) (new_row absent absent 0));
    letters = column 0 (λ u. stored (last_letter u)) (omega arith) refl;
    children = column 1 (λ u. stored (first_child ([] ∷ []) u)) (omega arith) (sym (ap stored (child_from_no ([] ∷ []) [] 0 (λ d l m. refl))));
    siblings = column 2 (λ u. stored (next_sibling ([] ∷ []) u)) (omega arith) refl;
    depths = column 3 length (omega arith) refl;
    numbers = column 4 (λ u. stored (find [] u)) (omega arith) refl;
  };
  blank = record {
    borders = column 5 (λ u. absent) (omega arith) refl;
    links = column 6 (λ u. absent) (omega arith) refl;
    chains = column 7 (λ u. 0) (omega arith) refl;
  };
  indexed = no_owners (allowed_bounded [] no_words) (empty.blocks 0 (omega arith)) (λ r l. empty.blocks (suc r) (omega arith)) empty.owners;
  count = refl;
}
  where
    column : (j : ℕ) (f : Word → ℕ) → j < width → get_or (new_row absent absent 0) j 0 ≡ f [] → Column ([] ∷ []) t' j f
    column j f l h =
        root_column t' j f (ap (λ (l : List ℕ). field_at l 0 j) e ∙ row_here t 0 (new_row absent absent 0) refl room j l ∙ h)

pub past_root : (t : List ℕ) {t' : List ℕ} → HasRow t 0 → t' ≡ sets t (width * 0) (new_row absent absent 0)
    → (i : ℕ) → width ≤ i → get_or t' i 0 ≡ get_or t i 0
past_root t room e i l = ap (λ (l : List ℕ). get_or l i 0) e ∙ row_past t 0 (new_row absent absent 0) refl room i (omega arith)

-- the first k words are in the tree, and the record of the next begins at `at`
pub record Planting (X : Words) (t₀ t : List ℕ) (index : ChildIndex) (k at n : ℕ) : Type 0 where
  pub low : k ≤ length X
  pub place_is : at ≡ place X k
  pub growing : Growing (take k X) (states (take k X)) t index n
  pub past : (i : ℕ) → width * n ≤ i → get_or t i 0 ≡ get_or t₀ i 0

pub planting : (X : Words) {t : List ℕ} {index : ChildIndex} → Growing [] (states []) t index 1 → Planting X t t index 0 0 1
planting X γ = record { low = omega arith; place_is = refl; growing = γ; past = λ i l. refl }

-- the states of the first j words are few
few_states : (X : Words) → Allowed X → (j : ℕ) → length (states (take j X)) ≤ most_states
few_states X d j =
    omega (
      arith,
      states-length (take j X),
      total-append (take j X) (drop j X),
      ap total (take-append-drop j X),
      d.storable.small,
    )

module _ {X : Words} {m b : List ℕ} {words : ℕ} (α : Accepted X m b words) {t₀ t : List ℕ} {index : ChildIndex} {k at n : ℕ}
    (φ : Planting X t₀ t index k at n) (more : k < length X) where
  here : Holds m b at (word X k)
  here = subst (λ (p : ℕ). Holds m b p (word X k)) (sym φ.place_is) (word_stands (accepted _ m b α.runs) k more)

  pub starts : at + 3 ≤ length b
  starts = omega (arith, here.within)

  next_words : take (suc k) X ≡ snoc (take k X) (word X k)
  next_words = take-suc X k [] more

  next_states : states (take (suc k) X) ≡ add_all (states (take k X)) (prefixes [] (word X k))
  next_states = ap states next_words ∙ states_snoc (take k X) (word X k)

  new : find (take k X) (word X k) ≡ none
  new = none_unless _ (λ i e.
      let f = find_some (take k X) (word X k) i e in
      let l : i < k = omega (arith, f.inside, length-take-le k X φ.low) in
      let same : word X i ≡ word X k = sym (get_or-take k X i [] l) ∙ f.reads in
      omega (arith, α.allowed.storable.dictionary.distinct i k (omega arith) more same))

  module _ {start end len : ℕ} (begins : start ≡ at + 3) (sized : len ≡ word_len (record_at b at)) (ends : end ≡ start + len) where
    long : len ≡ length (word X k)
    long = sized ∙ ap word_len here.record_here

    pub inside : end ≤ length b
    inside = omega (arith, long, here.within)

    letters : mapped m (take (end - start) (drop start b)) ≡ word X k
    letters =
        let e : end - start ≡ length (word X k) = omega (arith, long) in
        ap (λ (j : ℕ). mapped m (take j (drop start b))) e
        ∙ ap (λ (s : ℕ). mapped m (part b s (length (word X k)))) begins
        ∙ sym here.letters

    pub insertable : width * most_states ≤ length t
        → Insertable (take k X) (states (take k X)) t index n (mapped m (take (end - start) (drop start b))) k
    insertable room = rw letters (record {
      growing = φ.growing;
      number = sym (length-take-le k X φ.low);
      words = omega (arith, α.allowed.storable.few);
      new = new;
      nonempty = here.nonempty;
      short = here.short;
      bytes = α.allowed.letters k more;
      room = omega (arith, ap length next_states, few_states X α.allowed (suc k));
      few = omega (arith, ap length next_states, few_states X α.allowed (suc k));
    })

    pub planted_on : {t' : List ℕ} {index' : ChildIndex} {n' : ℕ}
        → Inserted (take k X) (states (take k X)) (mapped m (take (end - start) (drop start b))) t t' index' n'
        → Planting X t₀ t' index' (k + 1) end n'
    planted_on {t'} {index'} {n'} s = record {
      low = omega arith;
      place_is = rw (add-one k) (omega (arith, place_next X k more, φ.place_is, long));
      growing = rw (add-one k) (rw (next_states, next_words) grown);
      past = λ i l. s.past i l ∙ φ.past i (omega (arith, fewer));
    }
      where
        grown : Growing (snoc (take k X) (word X k)) (add_all (states (take k X)) (prefixes [] (word X k))) t' index' n'
        grown = subst (λ (w : Word). Growing (snoc (take k X) w) (add_all (states (take k X)) (prefixes [] w)) t' index' n') letters s.growing

        fewer : n ≤ n'
        fewer =
            omega (
              arith,
              φ.growing.count,
              grown.count,
              extends_length (add_all_extends (states (take k X)) (prefixes [] (word X k))),
            )

-- all words are in the tree
pub planted : {X : Words} {m b : List ℕ} {words : ℕ} → Accepted X m b words → {t₀ t₁ t : List ℕ} {index : ChildIndex} {k at n : ℕ}
    → Planting X t₁ t index k at n → words ≤ k → ((i : ℕ) → width ≤ i → get_or t₁ i 0 ≡ get_or t₀ i 0) → Planted X t₀ t index n
planted {X} α {k = k} φ h before =
    let all : take k X ≡ X = take_all k X (omega (arith, α.count)) in
    record {
      growing = rw all at φ.growing;
      past = λ i l. φ.past i l ∙ before i (omega (arith, φ.growing.count, root_inside φ.growing.tree.states));
    }
