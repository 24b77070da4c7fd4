-- Small functions on lists and on numbers below a bound that the other definitions are written with. Membership in a list is
-- `List.Memᴰ`, here called `In`; `elem` is its test.
use Rattle.std.specs.Prelude.{ℕ, zero, suc, ◌+◌, max, Bool, true, false, cond, not, ◌&&◌, ◌||◌, eqb}
use mathlib.Core.List.{List, [], ◌∷◌, ◌++◌, Memᴰ}
use mathlib.Core.Option.{Option, none, some}

abbrev pub In : {A : Type 0} → A → List A → Type 0
In x l = Memᴰ x l

-- some element passes the test
unfoldable pub any : {A : Type 0} → (A → Bool) → List A → Bool
any p [] = false
any p (x ∷ xs) = p x || any p xs

unfoldable pub elem : ℕ → List ℕ → Bool
elem x [] = false
elem x (y ∷ ys) = eqb x y || elem x ys

-- no number stands in the list twice
pub data Distinct : List ℕ → Type 0 where
  empty : Distinct []
  more : {x : ℕ} {l : List ℕ} → (In x l → ⊥) → Distinct l → Distinct (x ∷ l)

-- the elements that pass the test, in order
unfoldable pub select : {A : Type 0} → (A → Bool) → List A → List A
select p [] = []
select p (x ∷ xs) = cond (p x) (x ∷ select p xs) (select p xs)

-- the lists that f gives for the elements, one after the other
unfoldable pub concat_map : {A B : Type 0} → (A → List B) → List A → List B
concat_map f [] = []
concat_map f (x ∷ xs) = f x ++ concat_map f xs

unfoldable pub option_list : {A : Type 0} → Option A → List A
option_list none = []
option_list (some x) = x ∷ []

-- 0, 1, .. up to k - 1
unfoldable pub up_to : ℕ → List ℕ
up_to zero = []
up_to (suc k) = up_to k ++ (k ∷ [])

-- f 0 + f 1 + .. of k numbers
unfoldable pub sum_below : ℕ → (ℕ → ℕ) → ℕ
sum_below zero f = 0
sum_below (suc k) f = sum_below k f + f k

-- the largest of f 0, f 1, .. of k numbers, 0 of none
unfoldable pub max_below : ℕ → (ℕ → ℕ) → ℕ
max_below zero f = 0
max_below (suc k) f = max (max_below k f) (f k)

-- the test passes at every number below k
unfoldable pub all_below : ℕ → (ℕ → Bool) → Bool
all_below zero p = true
all_below (suc k) p = all_below k p && p k

-- two functions have other values at some number below k
abbrev pub differ : ℕ → (ℕ → ℕ) → (ℕ → ℕ) → Bool
differ k f g = not (all_below k (λ i. eqb (f i) (g i)))

-- f with the value v at j
unfoldable pub upd : {A : Type 0} → (ℕ → A) → ℕ → A → ℕ → A
upd f j v i = cond (eqb i j) v (f i)
