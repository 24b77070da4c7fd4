-- The order in which a call enters statements: the listed one, each statement once. It is noted as a list of numbers of 12 bits, five in a word; the word of the call's own touched arrays as a body,
-- which nothing asks for any more, says where the list stands and how many entries it has.
use Rattle.std.specs.Prelude.{ℕ, zero, suc, ◌+◌, ◌*◌, ◌/◌, ◌%◌, ◌^◌, ◌<◌, ◌≤◌, Bool, true, cond, ◌&&◌, List, [], ◌∷◌, ◌≢◌, ◌⊎◌, ◌≡◌, leb, ltb, length, get_or}
use Rattle.words.specs.Clauses.Row.{has}
use Rattle.flow.specs.Flow.{Flow}
use Rattle.theory.specs.Lists.{elem}
use Rattle.theory.specs.Queue.{join}
use Rattle.theory.specs.Body.{kind, call_lines, entered}
use Rattle.statements.specs.Clauses.Layout.{touched_at, matrix_at, lists_at, queue_at, entered_row_at, solver_at}
use Rattle.statements.specs.Clauses.Ready.{Keeps}
use Rattle.calls.specs.Clauses.Class.{transparent_call}

-- behind those of a list, the statements that are not in it yet, each once
unfoldable pub firsts : List ℕ → List ℕ → List ℕ
firsts xs [] = xs
firsts xs (b ∷ bs) = firsts (join xs b) bs

abbrev pub order : Flow → ℕ → List ℕ
order f i = firsts [] (entered f i)

-- entry k of the list at p
abbrev pub entry_at : List ℕ → ℕ → ℕ → ℕ
entry_at ws p k = get_or ws (p + k / 5) 0 / 2 ^ (12 * (k % 5)) % 4096

-- where a list of k entries ends
abbrev pub list_end : ℕ → ℕ → ℕ
list_end p k = p + (k + 4) / 5

abbrev pub Entries : List ℕ → ℕ → List ℕ → Type 0
Entries ws p xs = (k : ℕ) → k < length xs → entry_at ws p k ≡ get_or xs k 0

-- the order of call i is the list at p, which has k entries
pub record ListOf (f : Flow) (ws : List ℕ) (n i p k : ℕ) : Type 0 where
  pub from : lists_at n ≤ p
  pub to : list_end p k ≤ queue_at n
  pub count : k ≡ length (order f i)
  pub entries : Entries ws p (order f i)

-- a call that is not opaque and names several lines: of these the order is noted
abbrev pub several : Flow → ℕ → Bool
several f i = transparent_call f i && ltb 1 (length (call_lines (kind f i)))

-- a list of call i has room at p, whatever its lines enter
abbrev pub fits : Flow → ℕ → ℕ → ℕ → Bool
fits f n p i = leb (list_end p (length (call_lines (kind f i)))) (queue_at n)

-- where the next list may stand, if that of call i may stand at p
abbrev pub list_after : Flow → ℕ → ℕ → ℕ → ℕ
list_after f n p i = cond (several f i && fits f n p i) (list_end p (length (order f i))) p

-- where the lists of the calls below c end
unfoldable pub lists_end : Flow → ℕ → ℕ → ℕ
lists_end f n zero = lists_at n
lists_end f n (suc c) = list_after f n (lists_end f n c) c

-- what is noted of call i, if its list may stand at p: the place and the number of entries, or 0 where there is no room

abbrev pub order_word : List ℕ → ℕ → ℕ → ℕ
order_word ws n i = get_or ws (touched_at n + i) 0

abbrev pub place_and_count : Flow → ℕ → ℕ → ℕ → ℕ
place_and_count f n p i = cond (fits f n p i) (p + 2 ^ 32 * length (order f i)) 0

pub record OrderAt (f : Flow) (ws : List ℕ) (n i p : ℕ) : Type 0 where
  pub word : order_word ws n i ≡ place_and_count f n p i
  pub entries : fits f n p i ≡ true → Entries ws p (order f i)

-- it stands behind the lists of the calls before it
abbrev pub OrderOf : Flow → List ℕ → ℕ → ℕ → Type 0
OrderOf f ws n i = OrderAt f ws n i (lists_end f n i)

-- vs is ws with b as entry k of the list at p; the entries before it stay
pub record Put (ws vs : List ℕ) (p k b : ℕ) : Type 0 where
  pub here : entry_at vs p k ≡ b
  pub before : (j : ℕ) → j < k → entry_at vs p j ≡ entry_at ws p j
  pub kept : Keeps (p + k / 5) (p + k / 5 + 1) ws vs

-- the list at p as it is made, from ws₀ on: it has the k entries xs, which the row of entered statements holds too
pub record Listing (ws₀ ws : List ℕ) (n p : ℕ) (xs : List ℕ) (k : ℕ) : Type 0 where
  pub count : k ≡ length xs
  pub entries : Entries ws p xs
  pub seen : (b : ℕ) → b < n → has ws (entered_row_at n) b ≡ cond (elem b xs) 1 0
  pub kept : Keeps p (solver_at n) ws₀ ws

-- from ws to vs the statements bs, where they are not in it yet, became entries of the list at p, which then has r
abbrev pub Lists : List ℕ → List ℕ → ℕ → ℕ → ℕ → List ℕ → ℕ → Type 0
Lists ws vs n p k bs r = (ws₀ xs : List ℕ) → Listing ws₀ ws n p xs k → Listing ws₀ vs n p (firsts xs bs) r

-- the order of call c was noted, in a list at p if there is room, and the next one may stand at r
pub record OrderNoted (f : Flow) (ws vs : List ℕ) (n c p r : ℕ) : Type 0 where
  pub next : r ≡ list_after f n p c
  pub size : length vs ≡ length ws
  pub kept : (x : ℕ) → x ≢ touched_at n + c → (x < p) ⊎ (solver_at n ≤ x) → get_or vs x 0 ≡ get_or ws x 0
  pub order_at : several f c ≡ true → OrderAt f vs n c p

-- the orders of the calls below c are noted
pub record OrdersNoted (f : Flow) (ws₀ ws : List ℕ) (n c : ℕ) : Type 0 where
  pub size : length ws ≡ length ws₀
  pub low : (x : ℕ) → x < touched_at n → get_or ws x 0 ≡ get_or ws₀ x 0
  pub rows : (x : ℕ) → matrix_at n ≤ x → x < lists_at n → get_or ws x 0 ≡ get_or ws₀ x 0
  pub high : (x : ℕ) → solver_at n ≤ x → get_or ws x 0 ≡ get_or ws₀ x 0
  pub orders : (i : ℕ) → i < c → several f i ≡ true → OrderOf f ws n i
