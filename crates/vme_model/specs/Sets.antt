-- Sets of levels and chains, one bit each. (The numbering of bits is this project's profile.)
use Rattle.std.specs.Prelude.{◌==◌, ◌&&◌, ◌+◌, ◌-◌, ◌^◌, ℕ, Bool, List, codes, nat_lt, bit_and, bit_or, if◌then◌else◌}
use Rattle.vme_model.specs.declared.sets.ChainId.{ChainId}
use Rattle.vme_model.specs.declared.sets.ChainId.TheVariants as chain
use Rattle.vme_model.specs.declared.sets.Levels.{Levels}
use Rattle.vme_model.specs.declared.sets.BusLevels.{BusLevels}
use Rattle.vme_model.specs.declared.sets.Chains.{Chains}
use Rattle.vme_model.specs.Signals.{is_level}

-- interrupt level n, 1 to 7, is bit n - 1
abbrev pub has_level : Levels → ℕ → Bool
has_level set level = is_level level && (bit_and set.0 (2 ^ (level - 1)) == 2 ^ (level - 1))

-- the set with one more interrupt level
abbrev pub with_level : Levels → ℕ → Levels
with_level set level = record { 0 = bit_or set.0 (2 ^ (level - 1)) }

-- bus request level n, 0 to 3, is bit n
abbrev pub has_bus_level : BusLevels → ℕ → Bool
has_bus_level set level = nat_lt level 4 && (bit_and set.0 (2 ^ level) == 2 ^ level)

-- the bit of a daisy chain
abbrev pub chain_bit : ChainId → ℕ
chain_bit chain.Bg0 = 1
chain_bit chain.Bg1 = 2
chain_bit chain.Bg2 = 4
chain_bit chain.Bg3 = 8
chain_bit chain.Iack = 16

-- a chain's name in texts (profile)
abbrev pub chain_name : ChainId → List ℕ
chain_name chain.Bg0 = codes "bg0"
chain_name chain.Bg1 = codes "bg1"
chain_name chain.Bg2 = codes "bg2"
chain_name chain.Bg3 = codes "bg3"
chain_name chain.Iack = codes "iack"

-- the chain is in the set
abbrev pub has_chain : Chains → ChainId → Bool
has_chain set c = bit_and set.0 (chain_bit c) == chain_bit c

-- the set with one more chain
abbrev pub with_chain : Chains → ChainId → Chains
with_chain set c = record { 0 = bit_or set.0 (chain_bit c) }

-- no level
abbrev pub no_levels : Levels
no_levels = record { 0 = 0 }

-- no chain
abbrev pub no_chains : Chains
no_chains = record { 0 = 0 }

-- a set's bits as a number
abbrev pub bits_of_levels : Levels → ℕ
bits_of_levels set = set.0

-- a set of chains as a number, by its bits
abbrev pub bits_of_chains : Chains → ℕ
bits_of_chains set = set.0

-- a line's bit
abbrev bit : Bool → ℕ → ℕ
bit low value = if low then value else 0

-- the set of the bus request levels whose lines are low
abbrev pub bus_levels : (ℕ → Bool) → BusLevels
bus_levels low = record { 0 = bit (low 0) 1 + bit (low 1) 2 + bit (low 2) 4 + bit (low 3) 8 }

-- the set of the interrupt levels whose lines are low
abbrev pub irq_levels : (ℕ → Bool) → Levels
irq_levels low = record {
  0 = bit (low 1) 1 + bit (low 2) 2 + bit (low 3) 4 + bit (low 4) 8
      + bit (low 5) 16 + bit (low 6) 32 + bit (low 7) 64;
}
