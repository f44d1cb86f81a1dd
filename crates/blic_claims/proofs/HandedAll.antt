-- All claims of a node handed down to its one child.
use Rattle.std.proofs.Common.{arith, ℕ, suc, ◌≡◌, ◌+◌, ◌-◌, ◌<◌, sym, ◌∙◌, ap, subst, inl, inr, length, get_or, true, cond, ◌==◌, nat_lt, ◌&&◌, Option}
use Rattle.std.proofs.lemmas.Bool.{cases_eq, cases_lt, eq-eqb, ne_eqb, lt-ltb, le-ltb, and_from, and_left, and_right, cond-true, cond-false}
use Rattle.blic_model.specs.Circuit.{OrderedCircuit}
use Rattle.blic_model.specs.Counts.{claims}
use Rattle.blic_claims.specs.Points.{PointTable, ArePointsOf, coordinate, IsPlace, stored_point, is_among}
use Rattle.blic_claims.specs.Elements.{levels_of, fixed_point, HandsPoint, HandsAll}
use Rattle.blic_claims.specs.declared.elements.Fixed.{Fixed}
use Rattle.blic_claims.proofs.Handing.{own_points_stay}

among_last : (first n c : ℕ) → c ≡ first + n → is_among first (n + 1) c ≡ true
among_last first n c e =
    and_from (nat_lt c (first + (n + 1))) (nat_lt first (suc c)) (lt-ltb c (first + (n + 1)) (omega arith)) (lt-ltb first (suc c) (omega arith))

among_other : (first n c : ℕ) → (c ≡ first + n → ⊥) → is_among first (n + 1) c ≡ is_among first n c
among_other first n c ne = elim (cases_lt c (first + n)) [
  | inl l ↦ ap (λ b. b && nat_lt first (suc c)) (lt-ltb c (first + (n + 1)) (omega arith) ∙ sym (lt-ltb c (first + n) l))
  | inr l ↦ ap (λ b. b && nat_lt first (suc c)) (le-ltb c (first + (n + 1)) (omega arith) ∙ sym (le-ltb c (first + n) l))
]

-- one claim more
pub hands_more : (circuit : OrderedCircuit) (p q n : PointTable) (node count more child first : ℕ) (fixed : Option Fixed) → more ≡ count + 1 → ArePointsOf p circuit
    → child < node → node < length circuit.nodes → count < claims circuit.nodes node → q.rows ≡ p.rows → HandsAll circuit p node count fixed child first q
    → HandsPoint circuit q node count fixed child (first + count) n → HandsAll circuit p node more fixed child first n
hands_more circuit p q n node count more child first fixed em are lc ln lk rows old new a c i h =
    subst (λ z. coordinate n a c i ≡ cond ((a == child) && is_among first z c) (value p (c - first)) (coordinate p a c i)) (sym em)
    (elim (cases_eq c (first + count)) [
      | inl e ↦ elim (cases_eq a child) [
        | inl ea ↦
            let at : count ≡ c - first = omega arith in
            now ∙ (cond-true ((a == child) && (c == first + count)) (value q count) (coordinate q a c i)
            (and_from (a == child) (c == first + count) (eq-eqb a child ea) (eq-eqb c (first + count) e))
            ∙ (ap (λ s. fixed_point fixed s level) own ∙ (ap (value p) at
            ∙ sym (cond-true ((a == child) && is_among first (count + 1) c) (value p (c - first)) (coordinate p a c i)
            (and_from (a == child) (is_among first (count + 1) c) (eq-eqb a child ea) (among_last first count c e))))))
        | inr na ↦
            let no = ne_eqb a child na in
            now ∙ (cond-false ((a == child) && (c == first + count)) (value q count) (coordinate q a c i) (and_left (a == child) (c == first + count) no)
            ∙ (before ∙ (cond-false ((a == child) && is_among first count c) (value p (c - first)) (coordinate p a c i) (and_left (a == child) (is_among first count c) no)
            ∙ sym (cond-false ((a == child) && is_among first (count + 1) c) (value p (c - first)) (coordinate p a c i)
            (and_left (a == child) (is_among first (count + 1) c) no)))))
      ]
      | inr ne ↦
          now ∙ (cond-false ((a == child) && (c == first + count)) (value q count) (coordinate q a c i)
          (and_right (a == child) (c == first + count) (ne_eqb c (first + count) ne))
          ∙ (before ∙ ap (λ b. cond ((a == child) && b) (value p (c - first)) (coordinate p a c i)) (sym (among_other first count c ne))))
    ])
  where
    level : ℕ
    level = get_or (levels_of circuit a) i 0

    value : PointTable → ℕ → ℕ
    value p d = fixed_point fixed (stored_point circuit p node d) level

    now : coordinate n a c i ≡ cond ((a == child) && (c == first + count)) (value q count) (coordinate q a c i)
    now = new a c i (subst (λ rs. IsPlace rs a c i) (sym rows) h)

    before : coordinate q a c i ≡ cond ((a == child) && is_among first count c) (value p (c - first)) (coordinate p a c i)
    before = old a c i h

    own : stored_point circuit q node count ≡ stored_point circuit p node count
    own =
        own_points_stay circuit p q node count are ln lk
        (λ j u. old node count j u
        ∙ cond-false ((node == child) && is_among first count count) (fixed_point fixed (stored_point circuit p node (count - first)) (get_or (levels_of circuit node) j 0)) (coordinate p node count j)
        (and_left (node == child) (is_among first count count) (ne_eqb node child (λ e. omega arith))))
