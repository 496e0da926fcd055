-- Writing the border, the link and the chain's length of a state: the tree stays, and what was right stays right.
use mathlib.Core.Path.{◌≡◌, refl, ◌∙◌}
use mathlib.Core.List.{List}
use Prim.Native.Nat.{ℕ, ◌+◌, ◌*◌, ◌≤◌, ◌<◌}
use native.Mathlib.Omega.{arith}
use native.Mathlib.Decide.{ℕ_discrete}
use lib.ListN.{length, length-set}
use Rattle.meaning.specs.Words.{Words, word}
use Rattle.meaning.specs.Table.{width, letter_field, child_field, sibling_field, depth_field, word_field, border_field, link_field, chain_field}
use Rattle.tree.specs.Layout.{field_at, set_field, HasRow}
use Rattle.tree.specs.Tree.{Tree, border_of, link_of, chain_of}
use Rattle.tree.specs.Filling.{Known, SameTree, Grown}
use Rattle.tree.proofs.Cells.{set_here, set_other_field, set_other_row, set_past}
use Rattle.tree.proofs.Walk.{state_row}

pub same_refl : {n : ℕ} (t : List ℕ) → SameTree n t t
same_refl t = record { long = refl; fields = λ s j l. refl; past = λ i l. refl }

pub same_trans : {n : ℕ} {t₁ t₂ t₃ : List ℕ} → SameTree n t₁ t₂ → SameTree n t₂ t₃ → SameTree n t₁ t₃
same_trans p q = record {
  long = q.long ∙ p.long;
  fields = λ s j l. q.fields s j l ∙ p.fields s j l;
  past = λ i l. q.past i l ∙ p.past i l;
}

same_set : (t : List ℕ) {k n s : ℕ} (v : ℕ) → border_field ≤ k → k < width → s < n → SameTree n t (set_field t s k v)
same_set t {k} {n} {s} v b h l = record {
  long = length-set t _ v;
  fields = λ r j i. set_other_field t s k v r j h (omega arith) (λ e. omega arith);
  past = λ i m. set_past t s k v n i h l m;
}

pub same_tree : {X S : Words} {t t' : List ℕ} → SameTree (length S) t t' → Tree X S t → Tree X S t'
same_tree p τ = record {
  states = τ.states;
  words = τ.words;
  room = omega (arith, p.long, τ.room);
  letters = λ s h. p.fields s letter_field (omega arith) ∙ τ.letters s h;
  children = λ s h. p.fields s child_field (omega arith) ∙ τ.children s h;
  siblings = λ s h. p.fields s sibling_field (omega arith) ∙ τ.siblings s h;
  depths = λ s h. p.fields s depth_field (omega arith) ∙ τ.depths s h;
  numbers = λ s h. p.fields s word_field (omega arith) ∙ τ.numbers s h;
}

module _ {X S : Words} where
  pub grown_refl : (t : List ℕ) → Grown X S t t
  grown_refl t = record { same = same_refl t; kept = λ s l k. k }

  pub grown_trans : {t₁ t₂ t₃ : List ℕ} → Grown X S t₁ t₂ → Grown X S t₂ t₃ → Grown X S t₁ t₃
  grown_trans p q = record { same = same_trans p.same q.same; kept = λ s l k. q.kept s l (p.kept s l k) }

row_stays : (t : List ℕ) (s j v c : ℕ) → HasRow t c → HasRow (set_field t s j v) c
row_stays t s j v c h = omega (arith, length-set t (width * s + j) v)

-- the border, the link and the chain's length of state c are written
module _ {X S : Words} {t : List ℕ} (τ : Tree X S t) {c : ℕ} (inside : c < length S) (b l k : ℕ) where
  abbrev one : List ℕ
  one = set_field t c border_field b

  abbrev two : List ℕ
  two = set_field one c link_field l

  abbrev three : List ℕ
  three = set_field two c chain_field k

  here : HasRow t c
  here = state_row τ inside

  pub border-set : field_at three c border_field ≡ b
  border-set =
      set_other_field two c chain_field k c border_field (omega arith) (omega arith) (λ e. omega arith)
      ∙ set_other_field one c link_field l c border_field (omega arith) (omega arith) (λ e. omega arith)
      ∙ set_here t c border_field b (omega arith) here

  link_set : field_at three c link_field ≡ l
  link_set =
      set_other_field two c chain_field k c link_field (omega arith) (omega arith) (λ e. omega arith)
      ∙ set_here one c link_field l (omega arith) (row_stays t c border_field b c here)

  chain-set : field_at three c chain_field ≡ k
  chain-set = set_here two c chain_field k (omega arith) (row_stays one c link_field l c (row_stays t c border_field b c here))

  pub other_set : (s j : ℕ) → j < width → (s ≡ c → ⊥) → field_at three s j ≡ field_at t s j
  other_set s j h d =
      set_other_row two c chain_field k s j (omega arith) h d
      ∙ set_other_row one c link_field l s j (omega arith) h d
      ∙ set_other_row t c border_field b s j (omega arith) h d

  -- .. all right
  module _ (border : b ≡ border_of S (word S c)) (link : l ≡ link_of X S (word S c)) (chain : k ≡ chain_of X (word S c)) where
    pub known-set : Known X S three c
    known-set = record { border = border-set ∙ border; link = link_set ∙ link; chain = chain-set ∙ chain }

    pub grown-set : Grown X S t three
    grown-set = record {
      same =
          same_trans (same_set t b (omega arith) (omega arith) inside)
          (same_trans (same_set one l (omega arith) (omega arith) inside) (same_set two k (omega arith) (omega arith) inside));
      kept = λ s h κ. go s κ (ℕ_discrete s c);
    }
      where
        go : (s : ℕ) → Known X S t s → Dec (s ≡ c) → Known X S three s
        go s κ (yes e) = rw e known-set
        go s κ (no d) = record {
          border = other_set s border_field (omega arith) d ∙ κ.border;
          link = other_set s link_field (omega arith) d ∙ κ.link;
          chain = other_set s chain_field (omega arith) d ∙ κ.chain;
        }
