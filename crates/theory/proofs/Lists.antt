-- The Boolean functions on lists say what membership says: `any`, `has`, `select`, `concat_map`, `map`, `option_list` and `up_to`, both ways each; and sums
-- compare as their terms do. By induction on the list, on the proof of membership or on the bound. Assumes nothing.
use Prim.Native.Nat.{ℕ, zero, suc, ◌+◌, ◌<◌, ◌≤◌}
use mathlib.Core.Bool.{Bool, true, false, cond, ◌&&◌, ◌||◌, true≢false, or-false, or_assoc}
use mathlib.Core.List.Memᴰ
use mathlib.Core.List.{List, [], ◌∷◌, ◌++◌, map, append_assoc}
use mathlib.Core.Logic.{◌⊎◌, inl, inr, ⊎_elim}
use mathlib.Core.Option.{Option, none, some}
use mathlib.Core.Path.{◌≡◌, refl, sym, ◌∙◌, ap, subst}
use native.Mathlib.Omega.{arith}
use lib.Dec.{eqb}
use lib.ListN.{length, get_or, length-append}
use borrow.Author.Tests.{eqb-true, eqb-false, eq-eqb, ne_eqb}
use Rattle.theory.specs.Lists.{In, any, elem, select, concat_map, option_list, up_to, sum_below}

-- Tests

pub clash : {A : Type 0} (b : Bool) → b ≡ true → b ≡ false → A
clash b t u = absurd (true≢false (sym t ∙ u))

pub not_so : (b : Bool) → (b ≡ true → ⊥) → b ≡ false
not_so true h = absurd (h refl)
not_so false h = refl

pub or_cases : (a b : Bool) → (a || b) ≡ true → (a ≡ true) ⊎ (b ≡ true)
or_cases true b h = inl refl
or_cases false b h = inr h

pub or_left : (a b : Bool) → a ≡ true → (a || b) ≡ true
or_left a b h = rw h refl

pub or_right : (a b : Bool) → b ≡ true → (a || b) ≡ true
or_right true b h = refl
or_right false b h = h

pub or-first : (a b : Bool) → (a || b) ≡ false → a ≡ false
or-first true b h = h
or-first false b h = refl

pub or-second : (a b : Bool) → (a || b) ≡ false → b ≡ false
or-second true b h = clash true refl h
or-second false b h = h

pub and_both : (a b : Bool) → (a && b) ≡ true → (a ≡ true) × (b ≡ true)
and_both true b h = (refl, h)
and_both false b h = clash false h refl

pub and-true : (a b : Bool) → a ≡ true → b ≡ true → (a && b) ≡ true
and-true a b h k = rw h k

-- two tests with the same meaning are equal
pub same_test : (a b : Bool) → (a ≡ true → b ≡ true) → (b ≡ true → a ≡ true) → a ≡ b
same_test true b h k = sym (h refl)
same_test false true h k = k refl
same_test false false h k = refl

pub eqb_sym : (x y : ℕ) → eqb x y ≡ eqb y x
eqb_sym x y = same_test (eqb x y) (eqb y x) (λ e. eq-eqb y x (sym (eqb-true x y e))) (λ e. eq-eqb x y (sym (eqb-true y x e)))

-- a word that says 1 where the test passes says so
pub says_one : (b : Bool) → eqb (cond b 1 0) 1 ≡ b
says_one true = refl
says_one false = refl

-- Membership

pub member-cases : {A P : Type 0} {x y : A} {l : List A} → In x (y ∷ l) → (x ≡ y → P) → (In x l → P) → P
member-cases (Memᴰ.head e) h k = h e
member-cases (Memᴰ.tail m) h k = k m

-- the element at a place of a list is one of it
pub get_or-In : {A : Type 0} (l : List A) (k : ℕ) (d : A) → k < length l → In (get_or l k d) l
get_or-In [] k d h = absurd (omega arith)
get_or-In (x ∷ l) zero d h = Memᴰ.head refl
get_or-In (x ∷ l) (suc k) d h = Memᴰ.tail (get_or-In l k d (omega arith))

-- any

pub any-In : {A : Type 0} (p : A → Bool) {x : A} {l : List A} → In x l → p x ≡ true → any p l ≡ true
unfolding any
any-In p (Memᴰ.head {x = y} {xs = ys} e) h = or_left (p y) (any p ys) (ap p (sym e) ∙ h)
any-In p (Memᴰ.tail {x = y} {xs = ys} m) h = or_right (p y) (any p ys) (any-In p m h)

pub any_find : {A : Type 0} (p : A → Bool) (l : List A) → any p l ≡ true → (x : A) × In x l × (p x ≡ true)
unfolding any
any_find p [] h = clash false h refl
any_find {A} p (y ∷ ys) h = go (any_find p ys) (or_cases (p y) (any p ys) h)
  where
    go : (any p ys ≡ true → (x : A) × In x ys × (p x ≡ true)) → (p y ≡ true) ⊎ (any p ys ≡ true) → (x : A) × In x (y ∷ ys) × (p x ≡ true)
    go ih (inl e) = (y, Memᴰ.head refl, e)
    go ih (inr e) = let r = ih e in (r.0, Memᴰ.tail r.1, r.2)

pub any_none : {A : Type 0} (p : A → Bool) {x : A} {l : List A} → any p l ≡ false → In x l → p x ≡ false
any_none p {x} {l} h m = not_so (p x) (λ e. clash (any p l) (any-In p m e) h)

pub none_any : {A : Type 0} (p : A → Bool) (l : List A) → ((x : A) → In x l → p x ≡ false) → any p l ≡ false
none_any p l h = not_so (any p l) (λ e. let r = any_find p l e in clash (p r.0) r.2 (h r.0 r.1))

pub any_append : {A : Type 0} (p : A → Bool) (xs ys : List A) → any p (xs ++ ys) ≡ (any p xs || any p ys)
unfolding any
any_append p [] ys = refl
any_append p (x ∷ xs) ys = ap (λ (t : Bool). p x || t) (any_append p xs ys) ∙ sym (or_assoc (p x) (any p xs) (any p ys))

-- has

-- membership is such a test
pub elem-any : (x : ℕ) (l : List ℕ) → any (eqb x) l ≡ elem x l
unfolding any elem
elem-any x [] = refl
elem-any x (y ∷ l) = ap (λ b. eqb x y || b) (elem-any x l)

pub In-elem : {x : ℕ} {l : List ℕ} → In x l → elem x l ≡ true
unfolding elem
In-elem {x} (Memᴰ.head {x = y} {xs = ys} e) = or_left (eqb x y) (elem x ys) (eq-eqb x y e)
In-elem {x} (Memᴰ.tail {x = y} {xs = ys} m) = or_right (eqb x y) (elem x ys) (In-elem m)

pub elem-In : (x : ℕ) (l : List ℕ) → elem x l ≡ true → In x l
unfolding elem
elem-In x [] h = clash false h refl
elem-In x (y ∷ ys) h =
    ⊎_elim (λ e. Memᴰ.head (eqb-true x y e)) (λ e. Memᴰ.tail (elem-In x ys e)) (or_cases (eqb x y) (elem x ys) h)

pub elem-not : (x : ℕ) (l : List ℕ) → elem x l ≡ false → In x l → ⊥
elem-not x l h m = clash (elem x l) (In-elem m) h

pub elem-append : (j : ℕ) (xs ys : List ℕ) → elem j (xs ++ ys) ≡ (elem j xs || elem j ys)
elem-append j xs ys = sym (elem-any j (xs ++ ys)) ∙ any_append (eqb j) xs ys ∙ ap (λ (t : Bool). t || any (eqb j) ys) (elem-any j xs) ∙ ap (λ (t : Bool). elem j xs || t) (elem-any j ys)

-- one more element at the end

pub elem-one-more : (l : List ℕ) (x y : ℕ) → elem y (l ++ (x ∷ [])) ≡ (elem y l || eqb y x)
unfolding elem
elem-one-more l x y = elem-append y l (x ∷ []) ∙ ap (λ (t : Bool). elem y l || t) (or-false (eqb y x))

pub elem-last : (l : List ℕ) (x : ℕ) → elem x (l ++ (x ∷ [])) ≡ true
elem-last l x = elem-one-more l x x ∙ or_right (elem x l) (eqb x x) (eq-eqb x x refl)

pub elem-before : (l : List ℕ) {x y : ℕ} → (y ≡ x → ⊥) → elem y (l ++ (x ∷ [])) ≡ elem y l
elem-before l {x} {y} d = elem-one-more l x y ∙ rw (ne_eqb y x d) (or-false (elem y l))

-- select

pub select-In : {A : Type 0} (p : A → Bool) {x : A} {l : List A} → In x l → p x ≡ true → In x (select p l)
unfolding select
select-In p (Memᴰ.head {xs = ys} e) h = rw (ap p (sym e) ∙ h) (Memᴰ.head e)
select-In {A} p {x} (Memᴰ.tail {x = y} {xs = ys} m) h = go (p y) (select-In p m h)
  where
    go : (b : Bool) → In x (select p ys) → In x (cond b (y ∷ select p ys) (select p ys))
    go true n = Memᴰ.tail n
    go false n = n

pub In-select : {A : Type 0} (p : A → Bool) (l : List A) {x : A} → In x (select p l) → In x l × (p x ≡ true)
unfolding select
In-select p [] m = absurd (Memᴰ.not-nil m)
In-select {A} p (y ∷ ys) {x} m = go (p y) refl (In-select p ys) m
  where
    later : In x ys × (p x ≡ true) → In x (y ∷ ys) × (p x ≡ true)
    later r = (Memᴰ.tail r.0, r.1)

    go : (b : Bool) → p y ≡ b → (In x (select p ys) → In x ys × (p x ≡ true)) → In x (cond b (y ∷ select p ys) (select p ys)) → In x (y ∷ ys) × (p x ≡ true)
    go true e ih n = member-cases n (λ q. (Memᴰ.head q, ap p q ∙ e)) (λ r. later (ih r))
    go false e ih n = later (ih n)

-- concat_map

pub concat_map-In : {A B : Type 0} (f : A → List B) {x : A} {y : B} {l : List A} → In x l → In y (f x) → In y (concat_map f l)
unfolding concat_map
concat_map-In f {x} {y} (Memᴰ.head {x = z} {xs = zs} e) n = Memᴰ.append_left (concat_map f zs) (subst (λ w. In y (f w)) e n)
concat_map-In f (Memᴰ.tail {x = z} m) n = Memᴰ.append_right (f z) (concat_map-In f m n)

pub In-concat_map : {A B : Type 0} (f : A → List B) (l : List A) {y : B} → In y (concat_map f l) → (x : A) × In x l × In y (f x)
unfolding concat_map
In-concat_map f [] m = absurd (Memᴰ.not-nil m)
In-concat_map {A} {B} f (z ∷ zs) {y} m = go (In-concat_map f zs) (Memᴰ.append_cases (f z) m)
  where
    go : (In y (concat_map f zs) → (x : A) × In x zs × In y (f x)) → In y (f z) ⊎ In y (concat_map f zs) → (x : A) × In x (z ∷ zs) × In y (f x)
    go ih (inl n) = (z, Memᴰ.head refl, n)
    go ih (inr n) = let r = ih n in (r.0, Memᴰ.tail r.1, r.2)

pub concat_map-append : {A B : Type 0} (f : A → List B) (xs ys : List A) → concat_map f (xs ++ ys) ≡ concat_map f xs ++ concat_map f ys
unfolding concat_map
concat_map-append f [] ys = refl
concat_map-append f (x ∷ xs) ys = ap (λ l. f x ++ l) (concat_map-append f xs ys) ∙ sym (append_assoc (f x) (concat_map f xs) (concat_map f ys))

-- map

pub map-In : {A B : Type 0} (f : A → B) {x : A} {l : List A} → In x l → In (f x) (map f l)
map-In f (Memᴰ.head e) = Memᴰ.head (ap f e)
map-In f (Memᴰ.tail m) = Memᴰ.tail (map-In f m)

pub In-map : {A B : Type 0} (f : A → B) (l : List A) {y : B} → In y (map f l) → (x : A) × In x l × (y ≡ f x)
In-map f [] m = absurd (Memᴰ.not-nil m)
In-map {A} {B} f (z ∷ zs) {y} m = go (In-map f zs) m
  where
    go : (In y (map f zs) → (x : A) × In x zs × (y ≡ f x)) → In y (f z ∷ map f zs) → (x : A) × In x (z ∷ zs) × (y ≡ f x)
    go ih (Memᴰ.head e) = (z, Memᴰ.head refl, e)
    go ih (Memᴰ.tail n) = let r = ih n in (r.0, Memᴰ.tail r.1, r.2)

-- option_list

pub In-option_list : {A : Type 0} (o : Option A) {x : A} → In x (option_list o) → o ≡ some x
unfolding option_list
In-option_list none m = absurd (Memᴰ.not-nil m)
In-option_list (some y) m = ap some (sym (Memᴰ.eq_of_singleton m))

pub option_list-In : {A : Type 0} (o : Option A) (x : A) → o ≡ some x → In x (option_list o)
unfolding option_list
option_list-In o x e = rw e (Memᴰ.head refl)

-- up_to

pub up_to-In : (k x : ℕ) → x < k → In x (up_to k)
unfolding up_to
up_to-In zero x h = absurd (omega arith)
up_to-In (suc k) x h = go (eqb x k) refl (up_to-In k x)
  where
    go : (b : Bool) → eqb x k ≡ b → (x < k → In x (up_to k)) → In x (up_to k ++ (k ∷ []))
    go true e ih = Memᴰ.append_right (up_to k) (Memᴰ.head (eqb-true x k e))
    go false e ih = let d : x ≡ k → ⊥ = eqb-false x k e in Memᴰ.append_left (k ∷ []) (ih (omega arith))

pub length-up_to : (k : ℕ) → length (up_to k) ≡ k
unfolding up_to
length-up_to zero = refl
length-up_to (suc k) = length-append (up_to k) (k ∷ []) ∙ omega (arith, length-up_to k)

pub In-up_to : (k : ℕ) {x : ℕ} → In x (up_to k) → x < k
unfolding up_to
In-up_to zero m = absurd (Memᴰ.not-nil m)
In-up_to (suc k) {x} m = go (In-up_to k) (Memᴰ.append_cases (up_to k) m)
  where
    go : (In x (up_to k) → x < k) → In x (up_to k) ⊎ In x (k ∷ []) → x < suc k
    go ih (inl n) = let h : x < k = ih n in omega arith
    go ih (inr n) = let e : x ≡ k = Memᴰ.eq_of_singleton n in omega arith

-- sum_below

pub sum_below-same : (n : ℕ) (f g : ℕ → ℕ) → ((i : ℕ) → i < n → f i ≡ g i) → sum_below n f ≡ sum_below n g
unfolding sum_below
sum_below-same zero f g h = refl
sum_below-same (suc k) f g h =
    let below : sum_below k f ≡ sum_below k g = sum_below-same k f g (λ i l. h i (omega arith)) in
    let top : f k ≡ g k = h k (omega arith) in
    omega arith

-- a sum less at one number alone
pub sum_below_less : (n : ℕ) (f g : ℕ → ℕ) (x d : ℕ) → x < n → ((i : ℕ) → (i ≡ x → ⊥) → f i ≡ g i) → f x ≡ g x + d → sum_below n f ≡ sum_below n g + d
unfolding sum_below
sum_below_less zero f g x d l h e = absurd (omega arith)
sum_below_less (suc k) f g x d l h e = go (eqb x k) refl (λ l'. sum_below_less k f g x d l' h e)
  where
    go : (b : Bool) → eqb x k ≡ b → (x < k → sum_below k f ≡ sum_below k g + d) → sum_below k f + f k ≡ sum_below k g + g k + d
    go true q ih =
        let same : sum_below k f ≡ sum_below k g = sum_below-same k f g (λ i i<k. h i (λ i≡x. let x≡k : x ≡ k = eqb-true x k q in omega arith)) in
        let top : f k ≡ g k + d = subst (λ z. f z ≡ g z + d) (eqb-true x k q) e in
        omega arith
    go false q ih =
        let x≢k : x ≡ k → ⊥ = eqb-false x k q in
        let below : sum_below k f ≡ sum_below k g + d = ih (omega arith) in
        let top : f k ≡ g k = h k (λ k≡x. x≢k (sym k≡x)) in
        omega arith

pub sum_below-le : (n : ℕ) (f g : ℕ → ℕ) → ((i : ℕ) → i < n → f i ≤ g i) → sum_below n f ≤ sum_below n g
unfolding sum_below
sum_below-le zero f g h = omega arith
sum_below-le (suc k) f g h =
    let below : sum_below k f ≤ sum_below k g = sum_below-le k f g (λ i l. h i (omega arith)) in
    let top : f k ≤ g k = h k (omega arith) in
    omega arith

-- a sum of numbers that are no more, and less at x
pub sum_below-lt : (n : ℕ) (f g : ℕ → ℕ) (x : ℕ) → x < n → ((i : ℕ) → i < n → f i ≤ g i) → f x < g x → sum_below n f < sum_below n g
unfolding sum_below
sum_below-lt zero f g x l h e = absurd (omega arith)
sum_below-lt (suc k) f g x l h e = go (eqb x k) refl (λ l'. sum_below-lt k f g x l' (λ i i<k. h i (omega arith)) e)
  where
    go : (b : Bool) → eqb x k ≡ b → (x < k → sum_below k f < sum_below k g) → sum_below k f + f k < sum_below k g + g k
    go true q ih =
        let below : sum_below k f ≤ sum_below k g = sum_below-le k f g (λ i i<k. h i (omega arith)) in
        let top : f k < g k = subst (λ z. f z < g z) (eqb-true x k q) e in
        omega arith
    go false q ih =
        let x≢k : x ≡ k → ⊥ = eqb-false x k q in
        let below : sum_below k f < sum_below k g = ih (omega arith) in
        let top : f k ≤ g k = h k (omega arith) in
        omega arith

-- how many numbers below n the list has
unfoldable pub members : ℕ → List ℕ → ℕ
members n l = sum_below n (λ i. cond (elem i l) 1 0)

-- more in a list that holds all of the other's and x too
pub members-lt : (n : ℕ) (l m : List ℕ) (x : ℕ) → x < n → ((i : ℕ) → In i l → In i m) → elem x l ≡ false → In x m → members n l < members n m
unfolding members
members-lt n l m x h within out there =
    sum_below-lt n (λ i. cond (elem i l) 1 0) (λ i. cond (elem i m) 1 0) x h
    (λ i k. kept i (elem i l) refl)
    (rw (out, In-elem there) (omega arith))
  where
    kept : (i : ℕ) (b : Bool) → elem i l ≡ b → cond b 1 0 ≤ cond (elem i m) 1 0
    kept i true e = rw (In-elem (within i (elem-In i l e))) (omega arith)
    kept i false e = omega arith
