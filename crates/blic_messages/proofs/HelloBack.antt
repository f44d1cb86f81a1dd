-- A hello and its body, both ways.
use Rattle.std.proofs.Common.{arith, ℕ, ◌≡◌, refl, ap, sym, List, ◌++◌, length, drop}
use Rattle.std.proofs.lemmas.List.{take_rest}
use Rattle.byteorder.specs.Endian.{big_bytes, big_number}
use Rattle.byteorder.specs.Numbers.{big_number-reads_back}
use Rattle.blic_messages.specs.declared.ask.Hello.{Hello}
use Rattle.blic_messages.specs.Reading.{IsHello}
use Rattle.blic_messages.specs.Frames.{hello_body}
use Rattle.blic_messages.specs.Fronts.{hello_in}
use Rattle.blic_messages.proofs.Headers.{Bytes}
use Rattle.blic_messages.proofs.HelloParts.{hello_read}

pub length-hello : (h : Hello) → IsHello h → length (hello_body h) ≡ 38
length-hello h ok = let l = ok.digest.0 in omega arith

pub hello_back : (h : Hello) → IsHello h → hello_in (hello_body h) ≡ h
hello_back h ok =
    let rest = big_bytes 2 h.order ++ h.digest in
    let first : big_number 2 (hello_body h) ≡ h.wire = big_number-reads_back 2 h.wire (big_bytes 2 h.circuit ++ rest) (let l = ok.wire in omega arith) in
    let second : big_number 2 (drop 2 (hello_body h)) ≡ h.circuit = big_number-reads_back 2 h.circuit rest (let l = ok.circuit in omega arith) in
    let third : big_number 2 (drop 4 (hello_body h)) ≡ h.order = big_number-reads_back 2 h.order h.digest (let l = ok.order in omega arith) in
    λ i. record { wire = first i; circuit = second i; order = third i; digest = h.digest }

pub hello_spelled : (b : List ℕ) → length b ≡ 38 → Bytes b → IsHello (hello_in b) × (b ≡ hello_body (hello_in b))
hello_spelled b long bytes =
    hello_read b (drop 6 b) (big_number 2 b) (big_number 2 (drop 2 b)) (big_number 2 (drop 4 b)) long bytes refl
    (ap (big_number 2) (sym (take_rest b 2))) (ap (big_number 2) (sym (take_rest b 4))) (sym (take_rest b 6))
