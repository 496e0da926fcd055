-- The word to be changed for the next reading, found from the last word back.
use mathlib.Core.Path.{◌≡◌, refl, sym, ap, ◌∙◌, subst}
use mathlib.Core.Bool.{true}
use mathlib.Core.Option.{Option as Maybe, none, some}
use mathlib.Core.List.{List, [], ◌∷◌, ◌++◌, append-nil, Memᴰ}
use Prim.Native.Nat.{ℕ, suc, ◌+◌, ◌-◌, ◌≤◌, ◌<◌}
use native.Mathlib.Omega.{arith}
use lib.ListN.{length, get_or, take, drop, length-take}
use lib.Seq.{append_snoc}
use Rattle.std.specs.Prelude.{Option, Some}
use Rattle.meaning.specs.Words.{Word, Words, Reading, snoc, size, joined}
use Rattle.meaning.specs.Automaton.{chain}
use Rattle.meaning.specs.Table.{depth_field, link_field}
use Rattle.meaning.specs.Readings.{readable, count_column}
use Rattle.meaning.specs.Listing.{pick, first_reading, first_with, behind, changed, keeping, next_reading}
use Rattle.meaning.specs.Plain.{IsReading}
use Rattle.meaning.proofs.Chains.{chain_fits}
use Rattle.meaning.proofs.First.{Picks, pick_picks}
use Rattle.meaning.proofs.Next.{keep_last, next_snoc}
use Rattle.tree.specs.Layout.{field_at}
use Rattle.tree.specs.Tree.{IsTable}
use Rattle.listing.specs.Positions.{words_at, IsWord, StateOf, Placed, Ending}
use Rattle.listing.specs.declared.changing.Change.{Change}
use Rattle.listing.specs.Changes.{Changes}
use Rattle.listing.proofs.Steps.{word_size, word_next}
use Rattle.listing.proofs.Search.{behind_mem, behind_link}
use Rattle.listing.proofs.Backwards.{take_last, by_last, place_before, drop_last}

-- the words from entry j on are looked at; `best` is what the leftmost change among them makes
pub record Leftmost (X : Words) (t : Word) (tb ss l : List ℕ) (k i j : ℕ) (r : Option Change) : Type 0 where
  pub at : Placed X t tb ss i
  pub low : j ≤ k
  pub reads : IsReading X (take i t) (take j l)
  pub best : Maybe Reading
  pub change : Changes X t (take k l) r best
  pub is : next_reading X t (take k l) ≡ keeping (next_reading X t (take j l)) (drop j (take k l)) best

-- at first none is
keep_all : (o : Maybe Reading) → o ≡ keeping o [] none
keep_all none = refl
keep_all (some r) = ap some (sym (append-nil r))

keep_last_lem : (o other best : Maybe Reading) (n : ℕ) (ns : Reading)
    → keeping (keep_last o n other) ns best ≡ keeping o (n ∷ ns) (keeping other ns best)
keep_last_lem none other best n ns = refl
keep_last_lem (some r) other best n ns = ap some (append_snoc r n ns)

-- what is picked among the words behind the given one
picked_change : {X : Words} {t : Word} {tb cs : List ℕ} {v i u : ℕ} (ε : Ending X t tb cs v i) (ns : Reading) (j : ℕ) → j ≤ length ns
    → (best : Maybe Reading) {o : Maybe ℕ} → Picks X t i (words_at X v) o → StateOf X o (Some u)
    → Changes X t ns (Some (record { state = u; end = i; kept = j })) (keeping (first_with X t i o) (drop j ns) best)
picked_change {X} {t} {v = v} {i} ε ns j l best p (n, e, w) =
    let q : Memᴰ n (words_at X v) × (readable X t (i - size X n) ≡ true) = subst (Picks X t i (words_at X v)) e p in (
      snoc (first_reading X t (i - size X n)) n ++ drop j ns,
      ap (λ (o : Maybe ℕ). keeping (first_with X t i o) (drop j ns) best) e,
      record {
        number = n;
        word = w;
        place = ε.place;
        fits = (chain_fits X t i (ε.ends n q.0)).1;
        before = q.1;
        low = l;
        is = refl;
      },
    )

-- a turn: the last word n is at v, and the words behind it in its chain from b on
module _ {X : Words} {t : Word} {tb ss l : List ℕ} {k i j n : ℕ} {r : Option Change}
    (μ : Leftmost X t tb ss l k i j r) (room : k ≤ length l) (f : 0 < j) (e : n ≡ get_or l (j - 1) 0) where
  inside : j ≤ length l
  inside = omega (arith, μ.low)

  last : Memᴰ n (chain X (take i t)) × IsReading X (take (i - size X n) t) (take (j - 1) l)
  last = (by_last μ.at l f inside e).0 μ.reads

  pub last_member : Memᴰ n (chain X (take i t))
  last_member = last.0

  rest : drop (j - 1) (take k l) ≡ n ∷ drop j (take k l)
  rest = drop_last l j k f μ.low room e

  split : next_reading X t (take k l)
      ≡ keeping (next_reading X t (take (j - 1) l)) (drop (j - 1) (take k l)) (keeping (changed X t i n) (drop j (take k l)) μ.best)
  split =
      μ.is
      ∙ ap (λ (ns : Reading). keeping (next_reading X t ns) (drop j (take k l)) μ.best) (take_last l f inside e)
      ∙ ap (λ (o : Maybe Reading). keeping o (drop j (take k l)) μ.best) (next_snoc X t 0 (take (j - 1) l) n i at_end_lem)
      ∙ keep_last_lem (next_reading X t (take (j - 1) l)) (changed X t i n) μ.best n (drop j (take k l))
      ∙ ap (λ (ns : Reading). keeping (next_reading X t (take (j - 1) l)) ns (keeping (changed X t i n) (drop j (take k l)) μ.best))
      (sym rest)
    where
      at_end_lem : 0 + length (joined X (snoc (take (j - 1) l) n)) ≡ i
      at_end_lem = omega (
        arith,
        ap (λ (ns : Reading). length (joined X ns)) (take_last l f inside e),
        ap length μ.reads.joins,
        length-take i t,
        μ.at.place,
      )

  module _ {v b : ℕ} (w : IsWord X v n) (g : b ≡ field_at tb v link_field) where
    ι : IsTable X tb
    ι = μ.at.stated.table

    behind_is : behind n (chain X (take i t)) ≡ words_at X b
    behind_is = behind_link (take i t) ι w last_member g

    pub ending_behind : {cs : List ℕ} → take (suc (length t)) cs ≡ count_column X t → Ending X t tb cs b i
    ending_behind counts = record {
      walking = record { table = ι; on = (word_next ι w g).on };
      counts = counts;
      place = μ.at.place;
      ends = λ m k. behind_mem n (chain X (take i t)) (rw behind_is k);
    }

    -- the words before it read what is before it
    before : {d : ℕ} → d ≡ field_at tb v depth_field → IsReading X (take (i - d) t) (take (j - 1) l)
    before q = rw (word_size ι w q) last.1

    change_behind : next_reading X t (take k l)
        ≡ keeping (next_reading X t (take (j - 1) l)) (drop (j - 1) (take k l))
        (keeping (first_with X t i (pick X t i (words_at X b))) (drop j (take k l)) μ.best)
    change_behind =
        split
        ∙ ap (λ (c : List ℕ). keeping (next_reading X t (take (j - 1) l)) (drop (j - 1) (take k l))
        (keeping (first_with X t i (pick X t i c)) (drop j (take k l)) μ.best)) behind_is

    module _ {cs : List ℕ} (ε : Ending X t tb cs b i) {d : ℕ} (q : d ≡ field_at tb v depth_field) where
      pub leftmost_keep : pick X t i (words_at X b) ≡ none → Leftmost X t tb ss l k (i - d) (j - 1) r
      leftmost_keep p = record {
        at = place_before μ.at last_member w q;
        low = omega (arith, μ.low);
        reads = before q;
        best = μ.best;
        change = μ.change;
        is =
            change_behind
            ∙ ap (λ (o : Maybe ℕ). keeping (next_reading X t (take (j - 1) l)) (drop (j - 1) (take k l))
            (keeping (first_with X t i o) (drop j (take k l)) μ.best)) p;
      }

      pub leftmost_new : {u kept : ℕ} → StateOf X (pick X t i (words_at X b)) (Some u) → kept ≡ j
          → Leftmost X t tb ss l k (i - d) (j - 1) (Some (record { state = u; end = i; kept = kept }))
      leftmost_new p s = rw s (record {
        at = place_before μ.at last_member w q;
        low = omega (arith, μ.low);
        reads = before q;
        best = keeping (first_with X t i (pick X t i (words_at X b))) (drop j (take k l)) μ.best;
        change =
            picked_change ε (take k l) j (omega (arith, μ.low, length-take k l)) μ.best
            (pick_picks X t i (words_at X b)) p;
        is = change_behind;
      })
