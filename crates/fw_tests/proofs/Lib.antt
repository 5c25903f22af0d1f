mod AloneLaws
mod FilledLaws
mod MixingLaws
