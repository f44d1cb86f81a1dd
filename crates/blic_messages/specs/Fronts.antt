-- The grammars of asks and of replies.
use Rattle.std.specs.Prelude.{ℕ, zero, suc, ◌*◌, ◌/◌, ◌%◌, ◌==◌, ◌&&◌, nat_le, if◌then◌else◌, List, [], ◌∷◌, length, drop, replicate, Option, Some, None}
use Rattle.byteorder.specs.Endian.{big_number}
use Rattle.blic_field.specs.Quadratic.{Quadratic}
use Rattle.blic_messages.specs.declared.ask.Hello.{Hello}
use Rattle.blic_messages.specs.declared.ask.Ask.{Ask}
use Rattle.blic_messages.specs.declared.ask.Ask.TheVariants as asks
use Rattle.blic_messages.specs.declared.reply.Refusal.{Refusal}
use Rattle.blic_messages.specs.declared.reply.Refusal.TheVariants as refusals
use Rattle.blic_messages.specs.Replies.{Said, Answer, Polys, Values, Refused}
use Rattle.blic_messages.specs.Grammar.{Grammar, Part, Element, OneOf, Free, first_byte}

abbrev pub ask_parts : ℕ → ℕ → Option (List Part)
ask_parts kind len =
    if kind == 1 && len == 38 then Some (Free 38 ∷ [])
    else if kind == 2 && len == 0 then Some []
    else if kind == 3 && len == 8 then Some (Element ∷ [])
    else if kind == 5 && len == 0 then Some []
    else None

abbrev pub hello_in : List ℕ → Hello
hello_in body = record { wire = big_number 2 body; circuit = big_number 2 (drop 2 body); order = big_number 2 (drop 4 body); digest = drop 6 body }

abbrev pub ask_in : ℕ → List ℕ → Ask
ask_in kind body =
    if kind == 1 then asks.Hello (hello_in body) else if kind == 2 then asks.Go else if kind == 3 then asks.Draw (big_number 8 body) else asks.Bye

abbrev pub ask_grammar : Grammar Ask
ask_grammar = record { parts = ask_parts; frame = ask_in }

-- from 1 to 65,536 polynomials, of three elements each
abbrev pub reply_parts : ℕ → ℕ → Option (List Part)
reply_parts kind len =
    if kind == 129 && len == 1 then Some (OneOf (0 ∷ 1 ∷ []) ∷ [])
    else if kind == 130 && len % 24 == 0 && nat_le 24 len && nat_le len 1572864 then Some (replicate (len / 8) Element)
    else if kind == 131 && len == 16 then Some (Element ∷ Element ∷ [])
    else if kind == 132 && len == 1 then Some (OneOf (1 ∷ 2 ∷ 4 ∷ []) ∷ [])
    else if kind == 132 && len == 39 then Some (OneOf (3 ∷ []) ∷ Free 38 ∷ [])
    else None

-- element i of a body of elements
abbrev pub element_at : ℕ → List ℕ → ℕ
element_at i body = big_number 8 (drop (8 * i) body)

-- the first n polynomials of a body
abbrev pub polys_in : ℕ → List ℕ → List Quadratic
polys_in zero body = []
polys_in (suc n) body = record { c0 = element_at 0 body; c1 = element_at 1 body; c2 = element_at 2 body } ∷ polys_in n (drop 24 body)

abbrev pub refusal_in : List ℕ → Refusal
refusal_in body =
    if first_byte body == 1 then refusals.OutOfTurn else if first_byte body == 2 then refusals.NothingLeft
    else if first_byte body == 3 then refusals.NotServed (hello_in (drop 1 body)) else refusals.Broken

abbrev pub reply_in : ℕ → List ℕ → Said
reply_in kind body =
    if kind == 129 then Answer (first_byte body == 1) else if kind == 130 then Polys (polys_in (length body / 24) body)
    else if kind == 131 then Values (element_at 0 body) (element_at 1 body) else Refused (refusal_in body)

abbrev pub reply_grammar : Grammar Said
reply_grammar = record { parts = reply_parts; frame = reply_in }
