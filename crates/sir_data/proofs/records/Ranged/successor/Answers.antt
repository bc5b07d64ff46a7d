-- `successor` of a switch: a target in its turn, then the fallback.
use Rattle.std.proofs.Common.{◌≡◌, sym, ◌∙◌, rules}
use Rattle.sir_data.specs.Records.{control}
use Rattle.sir_data.specs.laws.Records.{switch_target, switch_fallback, block_some, block_named}
use Rattle.sir_data.proofs.records.Ranged.successor.Goals as goal

pub returns-then-i-block_word : goal.returns-then-i-block_word
returns-then-i-block_word c =
    let w = c.args.self.records.words.now in
    let b = c.args.b.0 in
    let kind : control w b ≡ 4 = search rules in
    let places = c.block_word-in-Ok-Switch.ensures in
    c.target.ensures ∙ rw c.block_word-then-i-block_word.ensures (sym (switch_target w b kind c.args.i (rw (← places) c.if-i-block_word.true)))

pub unwrap-requires : goal.unwrap-requires
unwrap-requires c =
    let w = c.args.self.records.words.now in
    let b = c.args.b.0 in
    let kind : control w b ≡ 4 = search rules in
    let past = switch_fallback w b kind c.args.i (rw (← c.block_word-in-Ok-Switch.ensures) c.if-i-block_word.false) c.requires.i_in_bounds in
    block_some c.fallback.result _ c.fallback.ensures past.0

pub returns-else-i-block_word : goal.returns-else-i-block_word
returns-else-i-block_word c =
    let w = c.args.self.records.words.now in
    let b = c.args.b.0 in
    let kind : control w b ≡ 4 = search rules in
    let past = switch_fallback w b kind c.args.i (rw (← c.block_word-in-Ok-Switch.ensures) c.if-i-block_word.false) c.requires.i_in_bounds in
    block_named c.unwrap.result _ (rw c.unwrap.ensures at c.fallback.ensures) past.0 ∙ sym past.1
