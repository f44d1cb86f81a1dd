-- The turns of a conversation, and the transcript of one: an answer, the draws in order, and the replies after the answer in order.
use Rattle.std.specs.Prelude.{ℕ, zero, suc, ◌≡◌, ◌+◌, ◌-◌, Bool, true, false, cond, nat_lt, List, [], ◌∷◌, ◌++◌, slice_index_or, map, flat_map, filter, length, reverse, sum_by, take}
use Rattle.std.specs.List.{AllZip}
use Rattle.blic_field.specs.Quadratic.{Quadratic}
use Rattle.blic_model.specs.declared.node.Node.{Node}
use Rattle.blic_model.specs.Circuit.{node_at, below, free}
use Rattle.blic_model.specs.Counts.{is_binary, claims}
use Rattle.blic_claims.specs.Claims.{Transcript}

-- what a reply is for: polynomials in a free level of a node, by its place among them, or the values of the node's operands
pub data Turn : Type 0 where
  ForPolys : ℕ → ℕ → Turn
  ForValues : ℕ → Turn

-- a reply after the answer
pub data Reply : Type 0 where
  Polys : List Quadratic → Reply
  Values : ℕ → ℕ → Reply

-- the turns of node k, if it is binary: its free levels from the lowest to the topmost, then the values
abbrev pub node_turns : List Node → ℕ → ℕ → List Turn
node_turns nodes levels k =
    cond (is_binary (node_at nodes k)) (map (ForPolys k) (reverse (below (length (free nodes levels k)))) ++ ForValues k ∷ []) []

-- the turns after the answer: those of the nodes by falling number
unfoldable pub turns : List Node → ℕ → List Turn
turns nodes levels = flat_map (node_turns nodes levels) (reverse (below (length nodes)))

-- the sum of f over the binary nodes above k
unfoldable pub sum_above : List Node → (ℕ → ℕ) → ℕ → ℕ
sum_above nodes f k = sum_by (λ j. cond (is_binary (node_at nodes j)) (f j) 0) (filter (nat_lt k) (below (length nodes)))

-- how many draws, and how many replies, come before those of node k
abbrev pub draws_above : List Node → ℕ → ℕ → ℕ
draws_above nodes levels k = sum_above nodes (λ j. length (free nodes levels j)) k

abbrev pub replies_above : List Node → ℕ → ℕ → ℕ
replies_above nodes levels k = sum_above nodes (λ j. length (free nodes levels j) + 1) k

-- the numbers, from 0, of the draw and of the polynomials for free level i of node k, and of the node's values
abbrev pub draw_number : List Node → ℕ → ℕ → ℕ → ℕ
draw_number nodes levels k i = draws_above nodes levels k + (length (free nodes levels k) - 1 - i)

abbrev pub polys_number : List Node → ℕ → ℕ → ℕ → ℕ
polys_number nodes levels k i = replies_above nodes levels k + (length (free nodes levels k) - 1 - i)

abbrev pub values_number : List Node → ℕ → ℕ → ℕ
values_number nodes levels k = replies_above nodes levels k + length (free nodes levels k)

-- what is made of a reply, by its kind
abbrev pub reply_by : {A : Type 0} → (List Quadratic → A) → (ℕ → ℕ → A) → Reply → A
reply_by polys values (Polys ps) = polys ps
reply_by polys values (Values u w) = values u w

abbrev pub no_reply : Reply
no_reply = Values 0 0

abbrev pub polys_of : Reply → List Quadratic
polys_of (Polys ps) = ps
polys_of (Values u w) = []

abbrev pub values_of : Reply → ℕ × ℕ
values_of (Polys ps) = (0, 0)
values_of (Values u w) = (u, w)

-- the transcript of an answer, draws and replies, which may be the first of a conversation; what isn't there yet is 0
unfoldable pub transcript : List Node → ℕ → Bool → List ℕ → List Reply → Transcript
transcript nodes levels answer draws replies = record {
  answer = answer;
  draw = λ k i. slice_index_or draws (draw_number nodes levels k i) 0;
  polys = λ k i. polys_of (slice_index_or replies (polys_number nodes levels k i) no_reply);
  values = λ k. values_of (slice_index_or replies (values_number nodes levels k) no_reply);
}

-- the reply is of the kind of its turn; polynomials are as many as the claims on their node
abbrev pub Fits : List Node → Turn → Reply → Type 0
Fits nodes (ForPolys k i) (Polys ps) = length ps ≡ claims nodes k
Fits nodes (ForPolys k i) (Values u w) = ⊥
Fits nodes (ForValues k) (Polys ps) = ⊥
Fits nodes (ForValues k) (Values u w) = Unit {0}

-- each of the replies so far fits its turn
abbrev pub AllFit : List Node → ℕ → List Reply → Type 0
AllFit nodes levels replies = AllZip (Fits nodes) (take (length replies) (turns nodes levels)) replies

abbrev pub is_polys : Turn → Bool
is_polys (ForPolys k i) = true
is_polys (ForValues k) = false

-- whether a draw comes after n replies: it does if the last of them was for polynomials
abbrev pub wants_draw_after : List Turn → ℕ → Bool
wants_draw_after ts zero = false
wants_draw_after ts (suc t) = is_polys (slice_index_or ts t (ForValues 0))
