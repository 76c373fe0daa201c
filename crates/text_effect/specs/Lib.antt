pub mod EffectCode
