-- Facts on lists that the laws of states, chains and readings use.
use mathlib.Core.Path.{◌≡◌, refl, sym, ap, ap₂, ◌∙◌, subst}
use mathlib.Core.List.Memᴰ
use mathlib.Core.List.{List, [], ◌∷◌, ◌++◌, map, head?, Memᴰ, nil≢cons, cons≢nil, head-eq_of_cons-eq, tail-eq_of_cons-eq}
use mathlib.Core.Logic.{◌⊎◌, inl, inr, ⊎_elim, ⊎_map, ◌↔◌}
use mathlib.Core.Option.{none, some}
use Prim.Native.Nat.{ℕ, zero, suc, ◌<◌, ◌≤◌, zero-le, suc-le-suc}
use native.Mathlib.Omega.{arith}
use native.Mathlib.Nat.{not-suc-le-zero, le_of_suc-le-suc}
use lib.ListN.{length, get_or, drop, get_elem?, length-append}
use Rattle.meaning.specs.Words.{snoc}
use Rattle.meaning.specs.Plain.{Ordered}

pub strong_induction : (P : ℕ → Type 0) → ((i : ℕ) → ((j : ℕ) → j < i → P j) → P i) → (i : ℕ) → P i
strong_induction P step i = up_to i i (omega arith)
  where
    up_to : (f j : ℕ) → j ≤ f → P j
    up_to zero j h = step j (λ k l. absurd (omega arith))
    up_to (suc f) j h = step j (λ k l. up_to f k (omega arith))

pub trichotomy : (i j : ℕ) → (i ≡ j) ⊎ ((i < j) ⊎ (j < i))
trichotomy zero zero = inl refl
trichotomy zero (suc j) = inr (inl (suc-le-suc zero-le))
trichotomy (suc i) zero = inr (inr (suc-le-suc zero-le))
trichotomy (suc i) (suc j) = ⊎_map (ap suc) (⊎_map suc-le-suc suc-le-suc) (trichotomy i j)

pub le_or_le : (i j : ℕ) → (i ≤ j) ⊎ (j ≤ i)
le_or_le zero j = inl zero-le
le_or_le (suc i) zero = inr zero-le
le_or_le (suc i) (suc j) = ⊎_map suc-le-suc suc-le-suc (le_or_le i j)

-- members
pub mem_at : {A : Type 0} (l : List A) (i : ℕ) (d : A) → i < length l → Memᴰ (get_or l i d) l
mem_at [] i d h = absurd (not-suc-le-zero h)
mem_at (x ∷ l) zero d h = Memᴰ.head refl
mem_at (x ∷ l) (suc i) d h = Memᴰ.tail (mem_at l i d (le_of_suc-le-suc h))

pub index_of : {A : Type 0} (d : A) {x : A} {l : List A} → Memᴰ x l → (n : ℕ) × (n < length l) × (get_or l n d ≡ x)
index_of d (Memᴰ.head e) = (zero, suc-le-suc zero-le, sym e)
index_of d (Memᴰ.tail m) = let (n, h, e) = index_of d m in (suc n, suc-le-suc h, e)

pub mem_map : {A B : Type 0} (f : A → B) (l : List A) {y : B} → Memᴰ y (map f l) → (x : A) × Memᴰ x l × (y ≡ f x)
mem_map f [] m = elim m [ ]
mem_map {A} {B} f (x ∷ l) {y} m = go (Memᴰ.cases_cons m) (λ n. mem_map f l n)
  where
    go : (y ≡ f x) ⊎ Memᴰ y (map f l) → (Memᴰ y (map f l) → (z : A) × Memᴰ z l × (y ≡ f z))
        → (z : A) × Memᴰ z (x ∷ l) × (y ≡ f z)
    go (inl e) h = (x, Memᴰ.head refl, e)
    go (inr n) h = let (z, k, e) = h n in (z, Memᴰ.tail k, e)

pub map_mem : {A B : Type 0} (f : A → B) {x : A} {l : List A} → Memᴰ x l → Memᴰ (f x) (map f l)
map_mem f (Memᴰ.head e) = Memᴰ.head (ap f e)
map_mem f (Memᴰ.tail m) = Memᴰ.tail (map_mem f m)

-- what stands at a place, if anything does
pub none_at : {A : Type 0} (l : List A) (i : ℕ) → (get_elem? l i ≡ none) ↔ (length l ≤ i)
none_at [] i = (λ e. omega arith, λ h. refl)
none_at (x ∷ l) zero = (λ e. let z : ◌≡◌ {A = ℕ} 0 1 = cc in absurd (omega arith), λ h. absurd (omega arith))
none_at (x ∷ l) (suc i) =
    let (f, g) = none_at l i in
    (λ e. omega (arith, f e), λ h. g (omega arith))

pub some_at : {A : Type 0} (l : List A) (i : ℕ) (d : A) → i < length l → get_elem? l i ≡ some (get_or l i d)
some_at [] i d h = absurd (omega arith)
some_at (x ∷ l) zero d h = refl
some_at (x ∷ l) (suc i) d h = some_at l i d (omega arith)

-- order
pub ordered_map : {A B : Type 0} (R : A → A → Type 0) (S : B → B → Type 0) (f : A → B) → ((x y : A) → R x y → S (f x) (f y))
    → (l : List A) → Ordered R l → Ordered S (map f l)
ordered_map R S f h [] o = tt
ordered_map R S f h (x ∷ l) o =
    (λ y m. let (z, k, e) = mem_map f l m in rw e (h x z (o.0 z k)), ordered_map R S f h l o.1)

pub ordered_append : {A : Type 0} (R : A → A → Type 0) (l k : List A) → Ordered R l → Ordered R k
    → ((x y : A) → Memᴰ x l → Memᴰ y k → R x y) → Ordered R (l ++ k)
ordered_append R [] k o p h = p
ordered_append R (x ∷ l) k o p h = (
  λ y m. ⊎_elim (λ i. o.0 y i) (λ j. h x y (Memᴰ.head refl) j) (Memᴰ.append_cases l m),
  ordered_append R l k o.1 p (λ a b i j. h a b (Memᴰ.tail i) j),
)

pub ordered_at : {A : Type 0} (R : A → A → Type 0) (l : List A) (d : A) → Ordered R l
    → (i j : ℕ) → i < j → j < length l → R (get_or l i d) (get_or l j d)
ordered_at R [] d o i j h k = absurd (not-suc-le-zero k)
ordered_at R (x ∷ l) d o i zero h k = absurd (not-suc-le-zero h)
ordered_at R (x ∷ l) d o zero (suc j) h k = o.0 (get_or l j d) (mem_at l j d (le_of_suc-le-suc k))
ordered_at R (x ∷ l) d o (suc i) (suc j) h k = ordered_at R l d o.1 i j (le_of_suc-le-suc h) (le_of_suc-le-suc k)

-- a list is determined by its elements and their order
pub ordered_unique : {A : Type 0} (R : A → A → Type 0) → ((x y : A) → R x y → R y x → ⊥)
    → (l k : List A) → Ordered R l → Ordered R k
    → ((x : A) → Memᴰ x l → Memᴰ x k) → ((x : A) → Memᴰ x k → Memᴰ x l) → l ≡ k
ordered_unique R s [] [] o p f g = refl
ordered_unique R s [] (y ∷ k) o p f g = absurd (Memᴰ.not-nil (g y (Memᴰ.head refl)))
ordered_unique R s (x ∷ l) [] o p f g = absurd (Memᴰ.not-nil (f x (Memᴰ.head refl)))
ordered_unique {A} R s (x ∷ l) (y ∷ k) o p f g =
    ap₂ ◌∷◌ same_head (ordered_unique R s l k o.1 p.1 (kept l k x y o same_head f) (kept k l y x p (sym same_head) g))
  where
    same_head : x ≡ y
    same_head =
        ⊎_elim
        (λ e. e)
        (λ m. ⊎_elim sym (λ n. absurd (s x y (o.0 y n) (p.0 x m))) (Memᴰ.cases_cons (g y (Memᴰ.head refl))))
        (Memᴰ.cases_cons (f x (Memᴰ.head refl)))

    kept : (l k : List A) (x y : A) → Ordered R (x ∷ l) → x ≡ y → ((z : A) → Memᴰ z (x ∷ l) → Memᴰ z (y ∷ k))
        → (z : A) → Memᴰ z l → Memᴰ z k
    kept l k x y o e f z m =
        ⊎_elim
        (λ q. let h = subst (R x) (q ∙ sym e) (o.0 z m) in absurd (s x x h h))
        (λ j. j)
        (Memᴰ.cases_cons (f z (Memᴰ.tail m)))

-- a list is empty, or has a last element
pub data Snoc {A : Type 0} : List A → Type 0 where
  nothing : Snoc []
  last : (l : List A) (x : A) → Snoc (snoc l x)

pub snoc_view : {A : Type 0} (l : List A) → Snoc l
snoc_view [] = nothing
snoc_view {A} (x ∷ l) = go l (snoc_view l)
  where
    go : (k : List A) → Snoc k → Snoc (x ∷ k)
    go k nothing = last [] x
    go k (last j y) = last (x ∷ j) y

pub snoc-length : {A : Type 0} (l : List A) (x : A) → length (snoc l x) ≡ suc (length l)
snoc-length [] x = refl
snoc-length (y ∷ l) x = ap suc (snoc-length l x)

pub snoc_inj : {A : Type 0} (l k : List A) {x y : A} → snoc l x ≡ snoc k y → (l ≡ k) × (x ≡ y)
snoc_inj [] [] e = (refl, head-eq_of_cons-eq e)
snoc_inj [] (b ∷ []) e = absurd (nil≢cons (tail-eq_of_cons-eq e))
snoc_inj [] (b ∷ c ∷ k) e = absurd (nil≢cons (tail-eq_of_cons-eq e))
snoc_inj (a ∷ []) [] e = absurd (cons≢nil (tail-eq_of_cons-eq e))
snoc_inj (a ∷ c ∷ l) [] e = absurd (cons≢nil (tail-eq_of_cons-eq e))
snoc_inj (a ∷ l) (b ∷ k) e = let (p, q) = snoc_inj l k (tail-eq_of_cons-eq e) in (ap₂ ◌∷◌ (head-eq_of_cons-eq e) p, q)

-- two ways to split one list
pub split_append : {A : Type 0} (xs ys ls : List A) (z : A) (bs : List A) → xs ++ ys ≡ ls ++ z ∷ bs
    → ((cs : List A) × (xs ≡ ls ++ z ∷ cs) × (bs ≡ cs ++ ys)) ⊎ ((cs : List A) × (ys ≡ cs ++ z ∷ bs) × (ls ≡ xs ++ cs))
split_append [] ys ls z bs e = inr (ls, e, refl)
split_append (x ∷ xs) ys [] z bs e = inl (xs, ap (λ y. y ∷ xs) (head-eq_of_cons-eq e), sym (tail-eq_of_cons-eq e))
split_append (x ∷ xs) ys (a ∷ ls) z bs e =
    ⊎_elim
    (λ h. inl (h.0, ap₂ ◌∷◌ (head-eq_of_cons-eq e) h.1, h.2))
    (λ h. inr (h.0, h.1, ap₂ ◌∷◌ (sym (head-eq_of_cons-eq e)) h.2))
    (split_append xs ys ls z bs (tail-eq_of_cons-eq e))

pub split_map : {A B : Type 0} (f : A → B) (l : List A) (ls : List B) (z : B) (bs : List B) → map f l ≡ ls ++ z ∷ bs
    → (ds : List A) × (y : A) × (cs : List A) × (l ≡ ds ++ y ∷ cs) × (z ≡ f y) × (bs ≡ map f cs) × (ls ≡ map f ds)
split_map f [] [] z bs e = absurd (nil≢cons e)
split_map f [] (a ∷ ls) z bs e = absurd (nil≢cons e)
split_map f (x ∷ l) [] z bs e = ([], x, l, refl, sym (head-eq_of_cons-eq e), sym (tail-eq_of_cons-eq e), refl)
split_map f (x ∷ l) (a ∷ ls) z bs e =
    let (ds, y, cs, p, q, r, w) = split_map f l ls z bs (tail-eq_of_cons-eq e) in
    (x ∷ ds, y, cs, ap (λ k. x ∷ k) p, q, r, ap₂ ◌∷◌ (sym (head-eq_of_cons-eq e)) w)

-- of two ends of one list the shorter ends the longer
pub ends_nest : {A : Type 0} (p w q v : List A) → p ++ w ≡ q ++ v → length v ≤ length w → (r : List A) × (w ≡ r ++ v)
ends_nest [] w q v e h = (q, e)
ends_nest (a ∷ p) w (b ∷ q) v e h = ends_nest p w q v (tail-eq_of_cons-eq e) h
ends_nest (a ∷ p) w [] v e h = absurd (omega (arith, ap length e, length-append p w))

pub head-drop : {A : Type 0} (l : List A) (i : ℕ) → head? (drop i l) ≡ get_elem? l i
head-drop [] zero = refl
head-drop [] (suc i) = refl
head-drop (x ∷ l) zero = refl
head-drop (x ∷ l) (suc i) = head-drop l i
