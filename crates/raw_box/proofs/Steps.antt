-- The words of the proofs by hand on boxes and handles, from the kit.
pub use Rattle.std.proofs.Common.{◌≡◌, List, [], ◌∷◌, ◌++◌, refl, sym, subst, lit<, ap}
pub use Rattle.std.specs.Prelude.{Option, None, Some}
pub use mir.Val.{Val, vnull, vptr, vcons, vnil}
pub use base.Logic.{SProp, ent, emp, id⊢}
pub use base.Fml.{ftrue, flft}
pub use prog.Wp.{WpFn}
pub use types.Kit.{‵, raw, ◌⊛◌, ◌$◌, ◌∵◌, !, qed, by, move, keep, split, fsplit, fjoin, suffices, use0, at_ret, use1, some, later, drop, split3, join, pick, await, rewrite}
pub use types.Run.{lit, no_more, and_then, returns, enter, stop, fld, of_opd, bin, first, branches, exec}
pub use types.ByLocal.{alloc_all, pass_all, free_all, look_at, get, sets, get_in, sets_last, env}
pub use types.Part.{agg, sub, whole}
pub use contract.Monad.{fact, fact_i}
pub use contract.Running.{tables}
pub use denote.Exit.{yes, no}
pub use denote.RattleType.{owns, RattleType}
pub use denote.RawPtr.{null_ptr, block_ptr, tests_null}
pub use denote.Signature.{types_at, plain, type_at}
pub use denote.Steps.{nothing, only}
pub use denote.Triple.Walked.{Stays, stay_dropped, walk_of, Goes-dropped}
pub use Rattle.std.proofs.raw_atomic.Walks.{proved_at, leaves}
pub use types.Match.{live}
pub use denote.Param.{layout, param, bounded}
pub use Rattle.core.proofs.alloc.Shapes.{after}
pub use Rattle.core.proofs.cell.Inside.{Good}
pub use Rattle.core.proofs.option.Made.{Some-of, none_of}
pub use Rattle.std.specs.contracts.impls.GlobalAllocator.TheImpl.{ghosts}
pub use Rattle.std_alloc.proofs.ResultValues.{and_tt}
pub use mir.Syntax.{a_type, dcons, dnil}
pub use mir.MapTy.{inst_fn}
pub use denote.Param.Laws.{param_laws}
pub use denote.Triple.Spec.{triple_of}
pub use Rattle.core.proofs.alloc.Calls.{Goes-blank}
pub use Rattle.core.proofs.atomic.Steps.{fm}
pub use Rattle.std_alloc.proofs.BoxSteps.Steps.{box_out, box_in}
