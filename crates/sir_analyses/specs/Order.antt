-- The order of functions and blocks, as `ReversePostOrder` of reverse_post_order.rs fills it, and the predecessors of a block
-- (document 01, "Rules of the analyses").
use Rattle.std.specs.Prelude.{Bool, cond, ℕ, zero, suc, ◌+◌, List, [], ◌∷◌, ◌++◌, map, reverse, eqb}
use Rattle.plank_core.specs.Lists.{foldl, bind, keep, mem, upto}
use Rattle.sir_data.specs.Records.{functions, blocks, init_function, main_plus_one, optional, entry_block, ops, successors, callees}

-- what has been seen, and what is finished, in the order in which it was finished: (function, block) pairs, and functions
pub record Visit : Type 0 where
  pub seen_blocks : List ℕ
  pub seen_functions : List ℕ
  pub finished : List (ℕ × ℕ)
  pub finished_functions : List ℕ

-- before the first visit: nothing seen, nothing finished
abbrev pub start : Visit
start = record { seen_blocks = []; seen_functions = []; finished = []; finished_functions = [] }

-- function f is seen
abbrev pub see_function : Visit → ℕ → Visit
see_function v f = record { seen_blocks = v.seen_blocks; seen_functions = f ∷ v.seen_functions; finished = v.finished; finished_functions = v.finished_functions }

-- block b is seen, whatever function visits it
abbrev pub see_block : Visit → ℕ → Visit
see_block v b = record { seen_blocks = b ∷ v.seen_blocks; seen_functions = v.seen_functions; finished = v.finished; finished_functions = v.finished_functions }

-- function f is finished, after those finished before
abbrev pub finish_function : Visit → ℕ → Visit
finish_function v f = record { seen_blocks = v.seen_blocks; seen_functions = v.seen_functions; finished = v.finished; finished_functions = v.finished_functions ++ (f ∷ []) }

-- block b is finished on behalf of function f
abbrev pub finish_block : Visit → ℕ → ℕ → Visit
finish_block v f b = record { seen_blocks = v.seen_blocks; seen_functions = v.seen_functions; finished = v.finished ++ ((f, b) ∷ []); finished_functions = v.finished_functions }

-- `visit_function` and `visit_block` of reverse_post_order.rs: a block's calls are visited before its successors, and visited blocks are
-- shared by all functions. n bounds the depth: unseen blocks plus unseen functions suffice
abbrev mutual
  -- `visit_function`: a function seen before is passed over, else its entry block is visited
  pub visit_function : ℕ → List ℕ → ℕ → Visit → Visit
  visit_function zero w f v = v
  visit_function (suc n) w f v =
      cond (mem f v.seen_functions) v
      (finish_function (visit_block n w f (entry_block w f) (see_function v f)) f)

  -- `visit_block` on behalf of function f: a block seen before is passed over, else its callees are visited, then its successors
  pub visit_block : ℕ → List ℕ → ℕ → ℕ → Visit → Visit
  visit_block zero w f b v = v
  visit_block (suc n) w f b v =
      cond (mem b v.seen_blocks) v
      (finish_block
      (foldl (λ u s. visit_block n w f s u)
      (foldl (λ u g. visit_function n w g u) (see_block v b) (bind (ops w b) (callees w)))
      (successors w b))
      f b)

-- the whole visit (`compute`): init, then main if any
abbrev pub visited : List ℕ → Visit
visited w = foldl (λ v f. visit_function (functions w + blocks w) w f v) start (init_function w ∷ optional (main_plus_one w))

-- `functions_rpo`: the finished functions, last first
abbrev pub functions_rpo : List ℕ → List ℕ
functions_rpo w = reverse (visited w).finished_functions

-- `function_blocks_rpo`, the blocks of one function: those whose visit it finished, last first; empty where its entry was seen before
abbrev pub function_blocks : List ℕ → ℕ → List ℕ
function_blocks w f = reverse (map (λ p. p.1) (keep (λ p. eqb p.0 f) (visited w).finished))

-- `blocks_rpo`: the visited blocks in the sequence of the Order answer
abbrev pub blocks_rpo : List ℕ → List ℕ
blocks_rpo w = bind (functions_rpo w) (function_blocks w)

-- is block b visited?
abbrev pub is_visited : List ℕ → ℕ → Bool
is_visited w b = mem b (visited w).seen_blocks

-- block p, once for each of its edges to b
abbrev pub edges_from : List ℕ → ℕ → ℕ → List ℕ
edges_from w p b = map (λ s. p) (keep (λ s. eqb s b) (successors w p))

-- predecessors of a block: visited blocks by id, each successor in turn, repeats kept
abbrev pub predecessors : List ℕ → ℕ → List ℕ
predecessors w b = bind (keep (is_visited w) (upto (blocks w))) (λ p. edges_from w p b)
