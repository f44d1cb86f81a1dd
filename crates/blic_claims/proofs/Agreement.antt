-- Claims and points follow from what was said and drawn before.
use Rattle.std.proofs.Common.{arith, ℕ, zero, suc, ◌≡◌, ◌+◌, ◌-◌, ◌<◌, ◌≤◌, refl, sym, ◌∙◌, List, [], ◌∷◌, length, drop, true}
use mathlib.Core.Path.{ap₂}
use Rattle.std.proofs.lemmas.List.{length-drop}
use Rattle.blic_model.specs.declared.node.Node.{Node}
use Rattle.blic_model.specs.declared.node.Node.TheVariants.{Const, Var, Not, Fix, And, Or}
use Rattle.blic_model.specs.Circuit.{node_at, root, below, free}
use Rattle.blic_model.specs.Value.{Point, put}
use Rattle.blic_model.specs.Counts.{is_binary}
use Rattle.blic_model.proofs.Ordered.{strong}
use Rattle.blic_model.proofs.Entries.{get-table}
use Rattle.blic_claims.specs.Claims.{Transcript, Claim, drawn, zero_point, node_point, claims_from, claims_on_entry, claims_on, point_at}
use Rattle.blic_claims.proofs.ClaimCounts.{claims_under}
use Rattle.blic_claims.proofs.Lists.{below_contains, flat_map_agree}

-- two transcripts agree on the values and the point of node j.
abbrev pub AgreeAt : List Node → ℕ → Transcript → Transcript → ℕ → Type 0
AgreeAt nodes levels T S j = is_binary (node_at nodes j) ≡ true → (T.values j ≡ S.values j) × (node_point nodes levels T j ≡ node_point nodes levels S j)

pub handed_agree : (nodes : List Node) (levels : ℕ) (T S : Transcript) (p : ℕ) (m : Node)
    → (is_binary m ≡ true → (T.values p ≡ S.values p) × (node_point nodes levels T p ≡ node_point nodes levels S p))
    → (cs ds : List Claim) → cs ≡ ds → (k : ℕ) → claims_from nodes levels T p m cs k ≡ claims_from nodes levels S p m ds k
handed_agree nodes levels T S p (Const b) a cs ds e k = refl
handed_agree nodes levels T S p (Var x) a cs ds e k = refl
handed_agree nodes levels T S p (Not c) a cs ds e k = rw e refl
handed_agree nodes levels T S p (Fix x b c) a cs ds e k = rw e refl
handed_agree nodes levels T S p (And c d) a cs ds e k = let w = a refl in let u = w.0 in let v = w.1 in rw (u, v) refl
handed_agree nodes levels T S p (Or c d) a cs ds e k = let w = a refl in let u = w.0 in let v = w.1 in rw (u, v) refl

entry_agree : (nodes : List Node) (levels : ℕ) (T S : Transcript) → T.answer ≡ S.answer → (n : ℕ)
    → ((j : ℕ) → j < n → n ≤ root nodes → ((i : ℕ) → root nodes - j < i → AgreeAt nodes levels T S i)
    → claims_under nodes levels T j ≡ claims_under nodes levels S j)
    → n ≤ root nodes → ((i : ℕ) → root nodes - n < i → AgreeAt nodes levels T S i)
    → claims_under nodes levels T n ≡ claims_under nodes levels S n
entry_agree nodes levels T S e zero ih l a = rw e refl
entry_agree nodes levels T S e (suc n) ih l a =
    flat_map_agree _ _ (below (suc n)) (λ j c.
    let q : j < suc n = below_contains (suc n) j c in
    handed_agree nodes levels T S (root nodes - j) (node_at nodes (root nodes - j)) (a (root nodes - j) (omega arith)) _ _
    (get-table (claims_on_entry nodes levels T) [] (suc n) j q
    ∙ (ih j q l (λ i h. a i (omega arith)) ∙ sym (get-table (claims_on_entry nodes levels S) [] (suc n) j q)))
    (root nodes - suc n))

-- the claims on a node follow from the answer and from what was sent and drawn at larger nodes.
pub claims_agree : (nodes : List Node) (levels : ℕ) (T S : Transcript) → T.answer ≡ S.answer
    → (k : ℕ) → ((j : ℕ) → k < j → AgreeAt nodes levels T S j) → k ≤ root nodes
    → claims_on nodes levels T k ≡ claims_on nodes levels S k
unfolding claims_on
claims_agree nodes levels T S e k a l =
    strong (λ n. n ≤ root nodes → ((i : ℕ) → root nodes - n < i → AgreeAt nodes levels T S i) → claims_under nodes levels T n ≡ claims_under nodes levels S n)
    (λ n ih. entry_agree nodes levels T S e n (λ j h m. ih j h (omega arith))) (root nodes - k) (omega arith) (λ i h. a i (omega arith))

-- a point follows from the draws that it has
pub drawn_agree : (d f : ℕ → ℕ) (i : ℕ) (xs : List ℕ) (s : Point) → ((j : ℕ) → i ≤ j → j < i + length xs → d j ≡ f j)
    → drawn d i xs s ≡ drawn f i xs s
drawn_agree d f i [] s h = refl
drawn_agree d f i (x ∷ xs) s h = ap₂ (λ r t. put r x t) (drawn_agree d f (suc i) xs s (λ j l m. h j (omega arith) (omega arith))) (h i (omega arith) (omega arith))

pub node_point_agree : (nodes : List Node) (levels : ℕ) (T S : Transcript) (k : ℕ)
    → ((i : ℕ) → i < length (free nodes levels k) → T.draw k i ≡ S.draw k i) → node_point nodes levels T k ≡ node_point nodes levels S k
unfolding node_point
node_point_agree nodes levels T S k h = drawn_agree (T.draw k) (S.draw k) 0 (free nodes levels k) zero_point (λ j l m. h j (omega arith))

pub point_at_agree : (nodes : List Node) (levels : ℕ) (T S : Transcript) (k i : ℕ) (c : Claim)
    → ((j : ℕ) → i ≤ j → j < length (free nodes levels k) → T.draw k j ≡ S.draw k j)
    → point_at nodes levels T k c i ≡ point_at nodes levels S k c i
point_at_agree nodes levels T S k i c h =
    drawn_agree (T.draw k) (S.draw k) i (drop i (free nodes levels k)) c.point
    (λ j l m. h j l (omega (arith, length-drop i (free nodes levels k))))
