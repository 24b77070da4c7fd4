-- Sets that numbers hand on along edges, by a worklist: what a set must have, by walks, and what holds of the sets while numbers wait. The graph and its direction, the elements, what a
-- number gives of its own and what it lets through are open: live names go backward along the listed graph, names not yet written forward, and arrays that are missed backward along body walks.
-- A number may also take less than comes: some elements never, and some only where another number has them.
-- A set is known by its members alone, so that it may be any number of words: `sets i x` is 1 if the set at number i has x, and else 0.
use Rattle.std.specs.Prelude.{ℕ, ◌<◌, ◌⊎◌, ◌≢◌, ◌≡◌}

pub record Problem : Type 1 where
  -- what leaves number j comes to number i
  pub edge : ℕ → ℕ → Type 0
  -- number i has element x from the start
  pub starts : ℕ → ℕ → Type 0
  -- number j gives element x of its own, or lets it through
  pub gives : ℕ → ℕ → Type 0
  pub passes : ℕ → ℕ → Type 0
  -- number i takes element x of what comes, and only where number b has it too, if it needs that
  pub takes : ℕ → ℕ → Type 0
  pub needs : ℕ → ℕ → ℕ → Type 0

-- every number takes whatever comes
pub record TakesAll (p : Problem) : Type 0 where
  pub takes : (i x : ℕ) → p.takes i x
  pub needs : (i b x : ℕ) → p.needs i b x → ⊥

abbrev pub taking_all : (ℕ → ℕ → Type 0) → (ℕ → ℕ → Type 0) → (ℕ → ℕ → Type 0) → (ℕ → ℕ → Type 0) → Problem
taking_all edge starts gives passes = record { edge = edge; starts = starts; gives = gives; passes = passes; takes = λ i x. Unit; needs = λ i b x. ⊥ }

-- by a walk of any length, element x comes to a number
pub data Comes (p : Problem) (x : ℕ) : ℕ → Type 0 where
  start : {i : ℕ} → p.starts i x → Comes p x i
  given : {i j : ℕ} → p.edge i j → p.takes i x → ((b : ℕ) → p.needs i b x → Comes p x b) → p.gives j x → Comes p x i
  through : {i j : ℕ} → p.edge i j → p.takes i x → ((b : ℕ) → p.needs i b x → Comes p x b) → p.passes j x → Comes p x j → Comes p x i

-- what leaves number j, by the set there
abbrev pub Leaves : Problem → (ℕ → ℕ → ℕ) → ℕ → ℕ → Type 0
Leaves p sets j x = p.gives j x ⊎ (p.passes j x × (sets j x ≡ 1))

-- what number i has from the start, and what it takes of what leaves others, by the sets
pub data Due (p : Problem) (sets : ℕ → ℕ → ℕ) (i x : ℕ) : Type 0 where
  start : p.starts i x → Due p sets i x
  comes : {j : ℕ} → p.edge i j → p.takes i x → ((b : ℕ) → p.needs i b x → sets b x ≡ 1) → Leaves p sets j x → Due p sets i x

-- all that is due is there
abbrev pub Full : Problem → ℕ → ℕ → (ℕ → ℕ → ℕ) → Type 0
Full p n elements sets = (i x : ℕ) → i < n → x < elements → Due p sets i x → sets i x ≡ 1

-- A number that waits is to hand its set on

-- n numbers and so many elements: every element of a set comes there, and a number that does not wait has handed on what leaves it
pub record Solving (p : Problem) (n elements : ℕ) (sets : ℕ → ℕ → ℕ) (waits : ℕ → Type 0) : Type 0 where
  pub sound : (i x : ℕ) → i < n → x < elements → sets i x ≡ 1 → Comes p x i
  pub started : (i x : ℕ) → i < n → x < elements → p.starts i x → sets i x ≡ 1
  pub handed_on : (j : ℕ) → j < n → waits j ⊎ ((i x : ℕ) → i < n → x < elements → p.edge i j → Leaves p sets j x → sets i x ≡ 1)

-- some elements are joined to the sets of some numbers, and nothing else changes
pub record Joins (n elements : ℕ) (to sent : ℕ → Type 0) (sets sets' : ℕ → ℕ → ℕ) : Type 0 where
  pub more : (i x : ℕ) → i < n → x < elements → sets i x ≡ 1 → sets' i x ≡ 1
  pub gets : (i x : ℕ) → i < n → x < elements → to i → sent x → sets' i x ≡ 1
  pub from : (i x : ℕ) → i < n → x < elements → sets' i x ≡ 1 → (sets i x ≡ 1) ⊎ (to i × sent x)

-- whatever waited still waits, and so does a number whose set grew
pub record Follows (n elements : ℕ) (sets sets' : ℕ → ℕ → ℕ) (waits waits' : ℕ → Type 0) : Type 0 where
  pub stays : (k : ℕ) → k < n → waits k → waits' k
  pub grows : (k : ℕ) → k < n → waits' k ⊎ ((x : ℕ) → x < elements → sets' k x ≡ sets k x)

-- A number that waits is to be looked at: what is due may not be there yet

pub record Settling (p : Problem) (n elements : ℕ) (sets : ℕ → ℕ → ℕ) (waits : ℕ → Type 0) : Type 0 where
  pub sound : (i x : ℕ) → i < n → x < elements → sets i x ≡ 1 → Comes p x i
  pub settled : (i : ℕ) → i < n → waits i ⊎ ((x : ℕ) → x < elements → Due p sets i x → sets i x ≡ 1)

-- the set of number i gets what is due and nothing else; if it grew, whatever follows from it waits, and all others that waited still do
pub record Settles (p : Problem) (n elements i : ℕ) (sets sets' : ℕ → ℕ → ℕ) (waits waits' : ℕ → Type 0) : Type 0 where
  pub others : (k x : ℕ) → k < n → x < elements → k ≢ i → sets' k x ≡ sets k x
  pub gets : (x : ℕ) → x < elements → Due p sets i x → sets' i x ≡ 1
  pub more : (x : ℕ) → x < elements → sets i x ≡ 1 → sets' i x ≡ 1
  pub from : (x : ℕ) → x < elements → sets' i x ≡ 1 → (sets i x ≡ 1) ⊎ Due p sets i x
  pub stays : (k : ℕ) → k < n → k ≢ i → waits k → waits' k
  pub wakes : ((x : ℕ) → x < elements → sets' i x ≡ sets i x) ⊎ ((k x : ℕ) → k < n → p.edge k i ⊎ p.needs k i x → waits' k)

-- edges and needs stay among n numbers
pub record Within (p : Problem) (n : ℕ) : Type 0 where
  pub edge : (i j : ℕ) → p.edge i j → j < n
  pub needs : (i b x : ℕ) → p.needs i b x → b < n
