-- The options of the commands: their ranges and their defaults.
use Rattle.std.specs.Prelude.{ℕ, ◌+◌, ◌*◌, ◌-◌, Bool, false, ◌&&◌, nat_le, if◌then◌else◌, List, length, fold, codes, bytes_eq, Option, Some, None, option_map, Result, Ok, Err}
use Rattle.std.specs.List.{list_all}
use Rattle.clap.specs.Words.{Row, Text, first_of}
use Rattle.hex.specs.Hex.{decode_sized}
use Rattle.hex.specs.declared.error.FromHexError.{FromHexError}
use Rattle.blic_words.specs.declared.options.Options.{Options}

-- the defaults: what holds if no option is given
abbrev pub usual : Options
usual = record { nodes = 4194304; pairs = 16777216; seed = None; repeat = 1; talk = false }

abbrev pub is_digit : ℕ → Bool
is_digit b = nat_le 48 b && nat_le b 57

-- the value of digits in the decimal system
abbrev pub value_of_digits : List ℕ → ℕ
value_of_digits digits = fold (λ n d. 10 * n + (d - 48)) 0 digits

-- a number is one to ten digits whose value is in the range; leading zeros are accepted
abbrev pub number_in : ℕ → ℕ → List ℕ → Option ℕ
number_in low high text =
    if nat_le 1 (length text) && nat_le (length text) 10 && list_all is_digit text && nat_le low (value_of_digits text) && nat_le (value_of_digits text) high
    then Some (value_of_digits text) else None

-- an option's number, or its default if the option isn't given
abbrev pub number_or : ℕ → ℕ → ℕ → Option Text → Option ℕ
number_or default low high None = Some default
number_or default low high (Some text) = number_in low high text

-- the bytes that were decoded, if they were
abbrev pub decoded : Result (List ℕ) FromHexError → Option (List ℕ)
decoded (Ok bytes) = Some bytes
decoded (Err error) = None

-- a seed of 32 bytes is 64 hexadecimal digits, in either case
abbrev pub seed_in : List ℕ → Option (List ℕ)
seed_in text = decoded (decode_sized text 32)

-- an option's seed, or its default if the option isn't given
abbrev pub seed_or : Option (List ℕ) → Option Text → Option (Option (List ℕ))
seed_or default None = Some default
seed_or default (Some text) = option_map Some (seed_in text)

-- whether a flag is given; its default if a command doesn't take it
abbrev pub is_set : Bool → Option Text → Bool
is_set default None = default
is_set default (Some text) = bytes_eq text (codes "true")

abbrev pub all_of : Option ℕ → Option ℕ → Option (Option (List ℕ)) → Option ℕ → Bool → Option Options
all_of (Some nodes) (Some pairs) (Some seed) (Some repeat) talk = Some (record { nodes = nodes; pairs = pairs; seed = seed; repeat = repeat; talk = talk })
all_of _ _ _ _ _ = None

-- the options by what was given under their names: `--nodes` is from 1 to 2^24, `--pairs` from 1 to 2^25, and `--repeat` from 1 to 1000
abbrev pub options_of : List Row → Option Options
options_of given = all_of
    (number_or usual.nodes 1 16777216 (first_of (codes "nodes") given))
    (number_or usual.pairs 1 33554432 (first_of (codes "pairs") given))
    (seed_or usual.seed (first_of (codes "seed") given))
    (number_or usual.repeat 1 1000 (first_of (codes "repeat") given))
    (is_set usual.talk (first_of (codes "talk") given))
