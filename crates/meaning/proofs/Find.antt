-- Where a word stands in a list of words.
use mathlib.Core.Bool.{Bool, true, false}
use mathlib.Core.Path.{◌≡◌, refl, sym, ◌∙◌, ap}
use mathlib.Core.Logic.{◌≢◌, ◌↔◌}
use mathlib.Core.Option.{Option, none, some}
use mathlib.Core.List.{[], ◌∷◌, ◌++◌, Memᴰ}
use Prim.Native.Nat.{ℕ, zero, suc, ◌≤◌, ◌<◌}
use native.Mathlib.Decide.{dec_le, dec_lt}
use native.Mathlib.Omega.{arith}
use lib.Dec.{eqb}
use borrow.Author.Tests.{eqb-true, eq-eqb}
use lib.ListN.{length}
use Rattle.meaning.specs.Words.{Word, Words, snoc, same, later, find, has, word}
use Rattle.meaning.specs.Plain.{Has, Distinct, Each}
use Rattle.meaning.proofs.Lists.{mem_at, index_of}

-- what a test or a search came to, with the equation
pub data Tested (b : Bool) : Type 0 where
  pass : b ≡ true → Tested b
  fail : b ≡ false → Tested b

pub test : (b : Bool) → Tested b
test true = pass refl
test false = fail refl

pub data Asked (o : Option ℕ) : Type 0 where
  got : (n : ℕ) → o ≡ some n → Asked o
  lacks : o ≡ none → Asked o

pub ask : (o : Option ℕ) → Asked o
ask none = lacks refl
ask (some n) = got n refl

pub some_inj : {m n : ℕ} → some m ≡ some n → m ≡ n
some_inj e = cc

pub none_or_some : {A : Type 0} {o : Option ℕ} {n : ℕ} → o ≡ none → o ≡ some n → A
none_or_some e f = let z : ◌≡◌ {A = ℕ} 0 1 = cc in absurd (omega arith)

pub none_unless : (o : Option ℕ) → ((n : ℕ) → o ≡ some n → ⊥) → o ≡ none
none_unless none h = refl
none_unless (some n) h = absurd (h n refl)

-- where one search fails only with another, it succeeds with it
pub some_with : {o o' : Option ℕ} {n : ℕ} → (o ≡ none → o' ≡ none) → o' ≡ some n → (m : ℕ) × (o ≡ some m)
some_with {o} f e = go (ask o)
  where
    go : Asked o → (m : ℕ) × (o ≡ some m)
    go (got m q) = (m, q)
    go (lacks q) = none_or_some (f q) e

-- words that are tested the same
pub same_refl : (u : Word) → same u u ≡ true
same_refl [] = refl
same_refl (a ∷ u) = rw (eq-eqb a a refl) (same_refl u)

pub same_true : (u v : Word) → same u v ≡ true → u ≡ v
same_true [] [] e = refl
same_true [] (b ∷ v) e = cc
same_true (a ∷ u) [] e = cc
same_true (a ∷ u) (b ∷ v) e = go (same_true u v) (test (eqb a b))
  where
    go : (same u v ≡ true → u ≡ v) → Tested (eqb a b) → a ∷ u ≡ b ∷ v
    go more (pass t) = cc (eqb-true a b t, more (rw t at e))
    go more (fail t) = cc (rw t at e)

pub same_false : (u v : Word) → same u v ≡ false → u ≢ v
same_false u v e q = let z : ◌≡◌ {A = ℕ} 0 1 = cc (same_refl v, rw q at e) in omega arith

pub data Alike (u v : Word) : Type 0 where
  alike : u ≡ v → Alike u v
  apart : u ≢ v → Alike u v

pub compare : (u v : Word) → Alike u v
compare u v = go (test (same u v))
  where
    go : Tested (same u v) → Alike u v
    go (pass t) = alike (same_true u v t)
    go (fail t) = apart (same_false u v t)

pub not_same : (u v : Word) → u ≢ v → same u v ≡ false
not_same u v h = go (test (same u v))
  where
    go : Tested (same u v) → same u v ≡ false
    go (pass t) = absurd (h (same_true u v t))
    go (fail t) = t

-- the two cases of `find`
pub find_here : (w : Word) (ws : Words) (u : Word) → w ≡ u → find (w ∷ ws) u ≡ some zero
find_here w ws u e = rw e (rw (same_refl u))

pub find_past : (w : Word) (ws : Words) (u : Word) → w ≢ u → find (w ∷ ws) u ≡ later (find ws u)
find_past w ws u h = rw (not_same w u h)

later_some : (o : Option ℕ) (n : ℕ) → later o ≡ some n → (m : ℕ) × (o ≡ some m) × (n ≡ suc m)
later_some none n e = none_or_some refl e
later_some (some m) n e = (m, refl, cc)

later_none : (o : Option ℕ) → later o ≡ none → o ≡ none
later_none none e = refl
later_none (some m) e = cc

-- u stands at place n of Y, and at none before
pub record FirstAt (Y : Words) (u : Word) (n : ℕ) : Type 0 where
  pub inside : n < length Y
  pub reads : word Y n ≡ u
  pub first : (m : ℕ) → m < n → word Y m ≢ u

first_later : (w : Word) (ws : Words) (u : Word) (m : ℕ) → w ≢ u → FirstAt ws u m → FirstAt (w ∷ ws) u (suc m)
first_later w ws u m d h = record { inside = omega (arith, h.inside); reads = h.reads; first = before }
  where
    before : (k : ℕ) → k < suc m → word (w ∷ ws) k ≢ u
    before zero l = d
    before (suc k) l = h.first k (omega arith)

-- what is found stands there first
pub find_some : (Y : Words) (u : Word) (n : ℕ) → find Y u ≡ some n → FirstAt Y u n
find_some [] u n e = none_or_some refl e
find_some (w ∷ ws) u n e = go (find_some ws u) (compare w u)
  where
    go : ((m : ℕ) → find ws u ≡ some m → FirstAt ws u m) → Alike w u → FirstAt (w ∷ ws) u n
    go more (alike q) =
        let z : n ≡ zero = cc (find_here w ws u q) in
        rw z (record { inside = omega arith; reads = q; first = λ m l. absurd (omega arith) })
    go more (apart d) =
        let (m, g, s) = later_some (find ws u) n (sym (find_past w ws u d) ∙ e) in
        rw s (first_later w ws u m d (more m g))

-- what is not found stands nowhere
pub find_none : (Y : Words) (u : Word) → find Y u ≡ none → (m : ℕ) → m < length Y → word Y m ≢ u
find_none [] u e m l = absurd (omega arith)
find_none (w ∷ ws) u e m l = go (find_none ws u) (compare w u) m l
  where
    go : (find ws u ≡ none → (k : ℕ) → k < length ws → word ws k ≢ u) → Alike w u
        → (k : ℕ) → k < suc (length ws) → word (w ∷ ws) k ≢ u
    go more (alike q) k b = none_or_some e (find_here w ws u q)
    go more (apart d) zero b = d
    go more (apart d) (suc k) b = more (later_none _ (sym (find_past w ws u d) ∙ e)) k (omega arith)

-- what an answer of `find Y u` says, by the answer
abbrev pub Finds : Words → Word → Option ℕ → Type 0
Finds Y u none = (n : ℕ) → n < length Y → word Y n ≢ u
Finds Y u (some n) = FirstAt Y u n

pub find_finds : (Y : Words) (u : Word) → Finds Y u (find Y u)
find_finds Y u = go (ask (find Y u))
  where
    go : Asked (find Y u) → Finds Y u (find Y u)
    go (got n e) = rw e (find_some Y u n e)
    go (lacks e) = rw e (find_none Y u e)

-- what stands somewhere is found, there or before
pub find_at : (Y : Words) (u : Word) (m : ℕ) → m < length Y → word Y m ≡ u → (n : ℕ) × (find Y u ≡ some n) × (n ≤ m)
find_at Y u m l q = go (ask (find Y u))
  where
    within : (n : ℕ) → FirstAt Y u n → Dec (n ≤ m) → n ≤ m
    within n h (yes k) = k
    within n h (no k) = absurd (h.first m (omega arith) q)

    go : Asked (find Y u) → (n : ℕ) × (find Y u ≡ some n) × (n ≤ m)
    go (got n e) = (n, e, within n (find_some Y u n e) (dec_le n m))
    go (lacks e) = absurd (find_none Y u e m l q)

-- what stands first at n is found there
pub find_first : (Y : Words) (u : Word) (n : ℕ) → FirstAt Y u n → find Y u ≡ some n
find_first Y u n h = go (find_at Y u n h.inside h.reads)
  where
    go : (m : ℕ) × (find Y u ≡ some m) × (m ≤ n) → find Y u ≡ some n
    go (m, e, l) = elim (dec_lt m n) [ yes k ↦ absurd (h.first m k (find_some Y u m e).reads) | no k ↦ e ∙ ap some (omega arith) ]

-- `Has` is membership
pub has_word : (Y : Words) (m : ℕ) → m < length Y → Has Y (word Y m)
has_word Y m l = let (n, e, h) = find_at Y _ m l refl in record { place = n; found = e }

pub has_member : (Y : Words) (u : Word) → Has Y u ↔ Memᴰ u Y
has_member Y u = (
  λ h. let f = find_some Y u h.place h.found in rw f.reads at (mem_at Y h.place [] f.inside),
  λ m. let (n, l, e) = index_of [] m in rw e at (has_word Y n l),
)

pub has_true : (Y : Words) (u : Word) → has Y u ≡ true → Has Y u
has_true Y u e = go (ask (find Y u))
  where
    go : Asked (find Y u) → Has Y u
    go (got n f) = record { place = n; found = f }
    go (lacks f) = let z : ◌≡◌ {A = ℕ} 0 1 = cc (rw f at e) in absurd (omega arith)

pub has_false : (Y : Words) (u : Word) → has Y u ≡ false → find Y u ≡ none
has_false Y u e = none_unless _ (λ n f. let z : ◌≡◌ {A = ℕ} 0 1 = cc (rw f at e) in omega arith)

-- what holds of each word holds of what is found
pub each_has : (P : Word → Type 0) (Y : Words) → Each P Y → (u : Word) → Has Y u → P u
each_has P Y h u k = let f = find_some Y u k.place k.found in rw f.reads at (h k.place f.inside)

-- the empty word is not found where every word has a letter
pub no_empty : (Y : Words) → Each (λ w. 1 ≤ length w) Y → find Y [] ≡ none
no_empty Y h = none_unless _ (λ n e. let f = find_some Y [] n e in omega (arith, h n f.inside, ap length f.reads))

-- each word is found where it stands: the same as that no word stands twice
abbrev pub Once : Words → Type 0
Once Y = (m : ℕ) → m < length Y → find Y (word Y m) ≡ some m

pub distinct_once : (Y : Words) → Distinct Y → Once Y
distinct_once Y d m l =
    let (n, e, k) = find_at Y _ m l refl in
    let h = find_some Y _ n e in
    e ∙ ap some (d n m h.inside l h.reads)

pub once_distinct : (Y : Words) → Once Y → Distinct Y
once_distinct Y f i j a b e = let p = f i a in let q = f j b in cc

-- a longer list
pub find_kept : (Y Z : Words) (u : Word) (n : ℕ) → find Y u ≡ some n → find (Y ++ Z) u ≡ some n
find_kept [] Z u n e = none_or_some refl e
find_kept (w ∷ ws) Z u n e = go (find_kept ws Z u) (compare w u)
  where
    go : ((m : ℕ) → find ws u ≡ some m → find (ws ++ Z) u ≡ some m) → Alike w u → find (w ∷ (ws ++ Z)) u ≡ some n
    go more (alike q) = cc (find_here w ws u q, find_here w (ws ++ Z) u q)
    go more (apart d) =
        let (m, g, s) = later_some (find ws u) n (sym (find_past w ws u d) ∙ e) in
        find_past w (ws ++ Z) u d ∙ ap later (more m g) ∙ ap some (sym s)

pub find_new : (Y : Words) (u : Word) → find Y u ≡ none → find (snoc Y u) u ≡ some (length Y)
find_new [] u e = find_here u [] u refl
find_new (w ∷ ws) u e = go (find_new ws u) (compare w u)
  where
    go : (find ws u ≡ none → find (snoc ws u) u ≡ some (length ws)) → Alike w u → find (w ∷ snoc ws u) u ≡ some (suc (length ws))
    go more (alike q) = none_or_some e (find_here w ws u q)
    go more (apart d) = cc (find_past w (snoc ws u) u d, more (later_none _ (sym (find_past w ws u d) ∙ e)))

pub find_other : (Y : Words) (q u : Word) → q ≢ u → find (snoc Y q) u ≡ find Y u
find_other [] q u d = find_past q [] u d
find_other (w ∷ ws) q u d = go (find_other ws q u d) (compare w u)
  where
    go : find (snoc ws q) u ≡ find ws u → Alike w u → find (w ∷ snoc ws q) u ≡ find (w ∷ ws) u
    go more (alike e) = cc (find_here w (snoc ws q) u e, find_here w ws u e)
    go more (apart n) = cc (find_past w (snoc ws q) u n, find_past w ws u n)
